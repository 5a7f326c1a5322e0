use Rattle.std.proofs.Common.{◌≡◌, length}
use Rattle.program_syntax.specs.Refusal.{is_closed}
use Rattle.program_syntax.proofs.labels.is_closed.Given as goal

-- the lines that are left close the section as all do
abbrev pub invariant-lines : goal.invariant-lines
invariant-lines l = is_closed l.left ≡ is_closed l.lines

abbrev pub decreases-lines : goal.decreases-lines
decreases-lines l = length l.left
