use Rattle.std.proofs.Common.{◌≡◌, ◌+◌, ◌≤◌, length}
use Rattle.bias_check.specs.Lines.{lines_of}
use Rattle.bias_check.specs.inner.Table.{names_of}
use Rattle.bias_check.specs.inner.Checking.{first_check, checked_from}
use Rattle.bias_check.proofs.check.answer.Given as goal

abbrev pub invariant-loop-left : goal.invariant-loop-left
invariant-loop-left l = record {
  same : checked_from (names_of l.program) l.number l.check (lines_of l.left)
      ≡ checked_from (names_of l.program) 0 (first_check l.program l.fuel l.start) (lines_of l.lines);
  counted : l.number + length (lines_of l.left) ≡ length (lines_of l.lines);
  bound : l.number + length l.left ≤ length l.lines;
  machine : length l.check.machine.threads ≡ length l.program.threads;
  hashes : length l.check.hashes.drawers ≡ length l.program.threads;
}

abbrev pub decreases-loop-left : goal.decreases-loop-left
decreases-loop-left l = length l.left
