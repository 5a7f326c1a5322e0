use Rattle.plain_history.proofs.HeldByLog.{object_holds_by_log}
use Rattle.plain_history.proofs.laws.holds_follow_from_the_own_log.Goals as goal

pub returns : goal.returns
returns c = object_holds_by_log
