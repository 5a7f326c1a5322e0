use Rattle.bias_law.proofs.Beside.{beside_keeps}
use Rattle.bias_law.proofs.Leaning.{exchange_leaves}
use Rattle.bias_law.proofs.steps.a_step_beside_the_biases_keeps_the_law_of_biases.Goals as goal

pub returns-clause-keeps : goal.returns-clause-keeps
returns-clause-keeps c = λ w t p beside law. beside_keeps w t p law beside

pub returns-clause-exchange : goal.returns-clause-exchange
returns-clause-exchange c = exchange_leaves
