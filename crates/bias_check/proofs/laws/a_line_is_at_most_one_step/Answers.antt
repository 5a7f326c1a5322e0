use Rattle.bias_check.proofs.OneStep.{step_same}
use Rattle.bias_check.proofs.laws.a_line_is_at_most_one_step.Goals as goal

pub returns : goal.returns
returns c = step_same
