use Rattle.std.proofs.Common.{◌≡◌, ◌+◌, ◌≤◌, length}
use Rattle.program_syntax.specs.Text.{most_bytes}
use Rattle.sync_syntax.specs.Refusal.{is_closed}
use Rattle.sync_syntax.proofs.closing.is_closed.Given as goal

-- the lines that are left close the block as all do, and each opens one block at most
abbrev pub invariant-lines : goal.invariant-lines
invariant-lines l = record {
  same : is_closed l.inner l.left ≡ is_closed 0 l.lines;
  few : l.inner + length l.left ≤ most_bytes + 1;
}

abbrev pub decreases-lines : goal.decreases-lines
decreases-lines l = length l.left
