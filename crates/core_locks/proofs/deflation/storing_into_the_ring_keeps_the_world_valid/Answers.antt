use Rattle.core_locks.proofs.deflation.Enqueues.{enqueues}
use Rattle.core_locks.proofs.deflation.storing_into_the_ring_keeps_the_world_valid.Goals as goal

pub returns : goal.returns
returns c = enqueues
