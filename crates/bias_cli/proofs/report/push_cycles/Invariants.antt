use Rattle.std.proofs.Common.{◌≡◌, ◌++◌, drop, map}
use Rattle.bias_cli.specs.Report.{cycle_line}
use Rattle.bias_cli.proofs.report.push_cycles.Given as goal

abbrev pub invariant-loop-cycle : goal.invariant-loop-cycle
invariant-loop-cycle l = l.lines.items ++ map (cycle_line l.program) (drop l.cycle-index l.cycles) ≡ l.fn.lines.items ++ map (cycle_line l.program) l.cycles
