use Rattle.core_locks.proofs.wait.RaiseStamps.{raising_valid}
use Rattle.core_locks.proofs.wait.waiting.raising_a_stamp_keeps_the_world_valid.Goals as goal

pub returns : goal.returns
returns c = raising_valid
