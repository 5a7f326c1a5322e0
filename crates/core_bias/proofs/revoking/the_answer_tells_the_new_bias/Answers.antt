use Rattle.core_bias.proofs.NewBias.{answer_tells}
use Rattle.core_bias.proofs.revoking.the_answer_tells_the_new_bias.Goals as goal

pub returns : goal.returns
returns c = answer_tells
