use Rattle.bias_law.proofs.Opening.{opening_meets}
use Rattle.bias_law.proofs.laws.the_opening_world_meets_the_law_of_biases.Goals as goal

pub returns : goal.returns
returns c = opening_meets
