use Rattle.core_locks.proofs.enter_exit.RefutedOwning.{no_entry_logged}
use Rattle.core_locks.proofs.refused.owning.no_entry_without_the_lock.Goals as goal

pub returns : goal.returns
returns c = no_entry_logged
