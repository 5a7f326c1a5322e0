use Rattle.wait_history.proofs.WaitsByLog.{object_waits_by_log}
use Rattle.wait_history.proofs.laws.waits_follow_from_the_own_log.Goals as goal

pub returns : goal.returns
returns c = object_waits_by_log
