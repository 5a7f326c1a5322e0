use Rattle.bias_law.proofs.enter_exit.RefusedEnters.{no_bias_too_often}
use Rattle.bias_law.proofs.refused.no_bias_taken_more_often_than_rebiases_allow.Goals as goal

pub returns : goal.returns
returns c = λ w P t e o p within may v often. no_bias_too_often w P t o p e within may v often
