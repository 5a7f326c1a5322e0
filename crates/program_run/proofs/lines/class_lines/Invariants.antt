use Rattle.std.proofs.Common.{◌≡◌}
use Rattle.program_run.specs.Lines.{lines_below}
use Rattle.program_run.proofs.lines.class_lines.Given as goal

abbrev pub invariant-loop-class : goal.invariant-loop-class
invariant-loop-class l = l.lines.items ≡ lines_below l.closed l.class
