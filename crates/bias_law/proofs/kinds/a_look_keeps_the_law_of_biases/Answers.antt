use Rattle.bias_law.proofs.QuietKinds.{looks}
use Rattle.bias_law.proofs.kinds.a_look_keeps_the_law_of_biases.Goals as goal

pub returns : goal.returns
returns c = looks
