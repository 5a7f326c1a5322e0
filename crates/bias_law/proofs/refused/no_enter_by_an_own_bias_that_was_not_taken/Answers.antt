use Rattle.bias_law.proofs.enter_exit.RefusedEnters.{no_untaken_bias}
use Rattle.bias_law.proofs.refused.no_enter_by_an_own_bias_that_was_not_taken.Goals as goal

pub returns : goal.returns
returns c = λ w P t e o p within may v none. no_untaken_bias w P t o p e within may v none
