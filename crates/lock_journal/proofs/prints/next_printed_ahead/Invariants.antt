use Rattle.std.proofs.Common.{◌≡◌, length}
use Rattle.plain_monitor.specs.Order.{order}
use Rattle.lock_journal.specs.Merging.{left_of}
use Rattle.lock_journal.specs.LinesLeft.{prints_left}
use Rattle.lock_journal.specs.inner.Heads.{IsAhead}
use Rattle.lock_journal.proofs.prints.next_printed_ahead.Given as goal

abbrev pub invariant-loop-t : goal.invariant-loop-t
invariant-loop-t l = record {
  same : prints_left l.run l.ahead.places ≡ prints_left l.run l.initial.ahead.places;
  stamps : IsAhead l.run.logs l.ahead;
}

abbrev pub decreases-loop-t : goal.decreases-loop-t
decreases-loop-t l = length (order (left_of l.run.logs l.ahead.places))
