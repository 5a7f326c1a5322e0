use Rattle.bias_law.proofs.enter_exit.RefusedEnters.{no_ended_bias}
use Rattle.bias_law.proofs.refused.no_enter_by_a_bias_that_has_ended.Goals as goal

pub returns : goal.returns
returns c = λ w P t e o p path within may v by ended. no_ended_bias w P t o p path e within may v by ended
