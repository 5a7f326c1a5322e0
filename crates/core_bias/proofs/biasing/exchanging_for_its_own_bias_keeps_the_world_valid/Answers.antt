use Rattle.core_bias.proofs.Rebiases.{rebias_valid}
use Rattle.core_bias.proofs.biasing.exchanging_for_its_own_bias_keeps_the_world_valid.Goals as goal

pub returns : goal.returns
returns c = rebias_valid
