use Rattle.std.proofs.Common.{◌≡◌, length}
use Rattle.plain_monitor.specs.Order.{order}
use Rattle.plain_machine.specs.Legal.{after_all, machine_after}
use Rattle.lock_journal.specs.Merging.{left_of}
use Rattle.lock_journal.specs.inner.Heads.{IsAhead}
use Rattle.lock_journal.proofs.replaying.replay.Given as goal

-- after the entries that are left the machine is the one after all
abbrev pub invariant-loop-t : goal.invariant-loop-t
invariant-loop-t l = record {
  after : after_all l.machine (order (left_of l.run.logs l.ahead.places)) ≡ machine_after l.run.program l.run.fuel l.run.logs;
  stamps : IsAhead l.run.logs l.ahead;
}

abbrev pub decreases-loop-t : goal.decreases-loop-t
decreases-loop-t l = length (order (left_of l.run.logs l.ahead.places))
