use Rattle.core_world.proofs.bias.LookWhileRevoking.{look_valid, miss_valid}
use Rattle.core_world.proofs.laws.a_look_keeps_the_world_valid.Goals as goal

pub returns-clause-load : goal.returns-clause-load
returns-clause-load c = look_valid

pub returns-clause-miss : goal.returns-clause-miss
returns-clause-miss c = miss_valid
