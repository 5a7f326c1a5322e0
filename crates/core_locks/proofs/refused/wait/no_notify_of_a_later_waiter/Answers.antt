use Rattle.core_locks.proofs.wait.RefutedWaits.{no_notify_of_a_later_waiter}
use Rattle.core_locks.proofs.refused.wait.no_notify_of_a_later_waiter.Goals as goal

pub returns : goal.returns
returns c = no_notify_of_a_later_waiter
