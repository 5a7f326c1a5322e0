use Rattle.own_logs.proofs.OwnWaits.{own_waits}
use Rattle.own_logs.proofs.laws.waits_at_rest_follow_from_the_own_log.Goals as goal

pub returns : goal.returns
returns c = λ h p o rests within. own_waits h p o rests
