use Rattle.core_world.proofs.RefusedWorlds.{no_hash_drawn_twice}
use Rattle.core_world.proofs.refused.no_hash_drawn_twice.Goals as goal

pub returns : goal.returns
returns c = no_hash_drawn_twice
