use Rattle.core_locks.proofs.safepoint.SafeStops.{requesting_valid}
use Rattle.core_locks.proofs.safepoint.requesting_keeps_the_world_valid.Goals as goal

pub returns : goal.returns
returns c = requesting_valid
