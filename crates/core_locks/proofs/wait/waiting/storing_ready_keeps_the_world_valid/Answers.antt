use Rattle.core_locks.proofs.wait.WaitLaws.{ready_valid}
use Rattle.core_locks.proofs.wait.waiting.storing_ready_keeps_the_world_valid.Goals as goal

pub returns : goal.returns
returns c = ready_valid
