use Rattle.core_locks.proofs.telling.TouchSlots.{put_law}
use Rattle.core_locks.proofs.telling.logging_a_put_keeps_the_world_valid.Goals as goal

pub returns : goal.returns
returns c = put_law
