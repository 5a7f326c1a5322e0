use Rattle.std.proofs.Common.{◌≡◌}
use Rattle.lock_journal.specs.LinesLeft.{prints_left}
use Rattle.lock_journal.proofs.prints.skip_all.Given as goal

abbrev pub invariant-loop-thread : goal.invariant-loop-thread
invariant-loop-thread l = prints_left l.run l.merge ≡ prints_left l.run l.initial.merge
