use Rattle.core_locks.proofs.safepoint.SafeStops.{stopping_valid}
use Rattle.core_locks.proofs.safepoint.stopping_keeps_the_world_valid.Goals as goal

pub returns : goal.returns
returns c = stopping_valid
