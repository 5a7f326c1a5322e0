use Rattle.bias_law.proofs.bias.BiasDrops.{bias_dropped}
use Rattle.bias_law.proofs.steps.dropping_a_bias_keeps_the_law_of_biases.Goals as goal

pub returns : goal.returns
returns c = bias_dropped
