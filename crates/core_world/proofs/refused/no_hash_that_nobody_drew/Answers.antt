use Rattle.core_world.proofs.RefusedWorlds.{no_hash_that_nobody_drew}
use Rattle.core_world.proofs.refused.no_hash_that_nobody_drew.Goals as goal

pub returns : goal.returns
returns c = no_hash_that_nobody_drew
