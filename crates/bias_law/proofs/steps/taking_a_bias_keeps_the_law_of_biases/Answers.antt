use Rattle.bias_law.proofs.bias.BiasTakes.{bias_taken}
use Rattle.bias_law.proofs.steps.taking_a_bias_keeps_the_law_of_biases.Goals as goal

pub returns : goal.returns
returns c = bias_taken
