use Rattle.core_locks.proofs.deflation.Detaches.{detaches}
use Rattle.core_locks.proofs.deflation.giving_an_object_its_header_keeps_the_world_valid.Goals as goal

pub returns : goal.returns
returns c = detaches
