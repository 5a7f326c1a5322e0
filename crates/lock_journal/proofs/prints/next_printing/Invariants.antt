use Rattle.std.proofs.Common.{◌≡◌, drop, length, ◌-◌}
use Rattle.plain_monitor.specs.Kept.{kept_of}
use Rattle.lock_journal.specs.inner.LineTexts.{prints}
use Rattle.lock_journal.proofs.prints.next_printing.Given as goal

abbrev pub invariant-loop-place : goal.invariant-loop-place
invariant-loop-place l = kept_of prints (drop l.place l.log) ≡ kept_of prints (drop l.from l.log)

abbrev pub decreases-loop-place : goal.decreases-loop-place
decreases-loop-place l = length l.log - l.place
