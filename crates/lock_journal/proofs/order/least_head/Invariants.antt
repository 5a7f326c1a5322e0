use Rattle.lock_journal.specs.inner.Heads.{IsLeastOf}
use Rattle.lock_journal.proofs.order.least_head.Given as goal

-- the least head of the threads so far
abbrev pub invariant-loop-thread : goal.invariant-loop-thread
invariant-loop-thread l = IsLeastOf l.logs l.places l.thread l.least
