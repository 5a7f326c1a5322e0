use Rattle.core_bias.proofs.Rebiases.{drop_valid}
use Rattle.core_bias.proofs.biasing.dropping_a_bias_keeps_the_world_valid.Goals as goal

pub returns : goal.returns
returns c = drop_valid
