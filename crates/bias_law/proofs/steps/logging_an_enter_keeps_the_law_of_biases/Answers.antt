use Rattle.bias_law.proofs.enter_exit.EnterLogged.{enter_logged}
use Rattle.bias_law.proofs.steps.logging_an_enter_keeps_the_law_of_biases.Goals as goal

pub returns : goal.returns
returns c = λ w P t e o p path. enter_logged w P t o p path e
