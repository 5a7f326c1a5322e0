use Rattle.core_locks.proofs.wait.RefutedWaits.{no_notify_all_that_misses_one}
use Rattle.core_locks.proofs.refused.wait.no_notify_all_that_misses_one.Goals as goal

pub returns : goal.returns
returns c = no_notify_all_that_misses_one
