use Rattle.std.proofs.Common.{◌≡◌, ◌++◌, drop, map}
use Rattle.bias_cli.specs.Report.{count_line}
use Rattle.bias_cli.proofs.report.push_counts.Given as goal

abbrev pub invariant-loop-count : goal.invariant-loop-count
invariant-loop-count l = l.lines.items ++ map (count_line l.program) (drop l.count-index l.counts) ≡ l.fn.lines.items ++ map (count_line l.program) l.counts
