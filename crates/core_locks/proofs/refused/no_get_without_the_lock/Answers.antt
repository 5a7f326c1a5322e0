use Rattle.core_locks.proofs.enter_exit.RefutedOwning.{no_get_found}
use Rattle.core_locks.proofs.refused.no_get_without_the_lock.Goals as goal

pub returns : goal.returns
returns c = no_get_found
