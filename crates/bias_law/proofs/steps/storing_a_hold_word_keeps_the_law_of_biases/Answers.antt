use Rattle.bias_law.proofs.enter_exit.HoldStored.{hold_stored}
use Rattle.bias_law.proofs.steps.storing_a_hold_word_keeps_the_law_of_biases.Goals as goal

pub returns : goal.returns
returns c = hold_stored
