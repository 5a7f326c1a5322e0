use Rattle.bias_law.proofs.Beside.{missed_keeps}
use Rattle.bias_law.proofs.steps.a_miss_keeps_the_law_of_biases.Goals as goal

pub returns : goal.returns
returns c = λ w t p missed law. missed_keeps w t p law missed
