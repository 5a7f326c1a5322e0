use Rattle.core_locks.proofs.deflation.Advances.{advances}
use Rattle.core_locks.proofs.deflation.moving_the_end_of_the_ring_keeps_the_world_valid.Goals as goal

pub returns : goal.returns
returns c = advances
