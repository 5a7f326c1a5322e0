use Rattle.lock_journal.proofs.Merging.{none_left}
use Rattle.lock_journal.proofs.order.take_least.Goals as goal

pub returns-in_err-least-clause-first : goal.returns-in_err-least-clause-first
returns-in_err-least-clause-first c =
    rw c.from_residual.ensures (none_left _ _ (rw c.in_err-least.was at c.least_head.ensures))
