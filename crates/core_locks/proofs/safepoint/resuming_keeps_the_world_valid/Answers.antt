use Rattle.core_locks.proofs.safepoint.SafeStops.{resuming_valid}
use Rattle.core_locks.proofs.safepoint.resuming_keeps_the_world_valid.Goals as goal

pub returns : goal.returns
returns c = resuming_valid
