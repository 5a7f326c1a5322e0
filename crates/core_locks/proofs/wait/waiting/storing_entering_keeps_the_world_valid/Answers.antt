use Rattle.core_locks.proofs.wait.WaitLaws.{entering_valid}
use Rattle.core_locks.proofs.wait.waiting.storing_entering_keeps_the_world_valid.Goals as goal

pub returns : goal.returns
returns c = entering_valid
