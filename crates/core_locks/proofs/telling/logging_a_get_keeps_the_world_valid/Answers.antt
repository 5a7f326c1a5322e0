use Rattle.core_locks.proofs.telling.TouchSlots.{get_law}
use Rattle.core_locks.proofs.telling.logging_a_get_keeps_the_world_valid.Goals as goal

pub returns : goal.returns
returns c = get_law
