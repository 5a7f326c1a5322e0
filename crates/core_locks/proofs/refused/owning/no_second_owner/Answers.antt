use Rattle.core_locks.proofs.monitor.RefutedOwners.{no_second_owner}
use Rattle.core_locks.proofs.refused.owning.no_second_owner.Goals as goal

pub returns : goal.returns
returns c = no_second_owner
