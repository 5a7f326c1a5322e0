use Rattle.std.proofs.Common.{◌≡◌, take}
use Rattle.program_run.specs.Lines.{sums_on}
use Rattle.program_run.proofs.lines.sums_on.Given as goal

abbrev pub invariant-loop-own : goal.invariant-loop-own
invariant-loop-own l = l.sums ≡ sums_on (take l.own-index l.counts) l.class
