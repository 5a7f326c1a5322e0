use Rattle.core_bias.proofs.Rebiases.{prototype_looks}
use Rattle.core_bias.proofs.biasing.a_load_of_a_prototype_keeps_the_world_valid.Goals as goal

pub returns : goal.returns
returns c = prototype_looks
