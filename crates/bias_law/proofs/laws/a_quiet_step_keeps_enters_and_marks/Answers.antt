use Rattle.bias_law.proofs.Quiets.{quiet_keeps}
use Rattle.bias_law.proofs.laws.a_quiet_step_keeps_enters_and_marks.Goals as goal

pub returns : goal.returns
returns c = quiet_keeps
