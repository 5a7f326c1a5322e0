use Rattle.core_locks.proofs.monitor.RefutedOwners.{no_recursion_without_a_hold}
use Rattle.core_locks.proofs.refused.owning.no_recursion_without_a_hold.Goals as goal

pub returns : goal.returns
returns c = no_recursion_without_a_hold
