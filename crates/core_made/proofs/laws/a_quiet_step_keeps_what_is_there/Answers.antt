use Rattle.core_made.proofs.Quiets.{quiet_keeps}
use Rattle.core_made.proofs.laws.a_quiet_step_keeps_what_is_there.Goals as goal

pub returns : goal.returns
returns c w t p a law = quiet_keeps w t p law a
