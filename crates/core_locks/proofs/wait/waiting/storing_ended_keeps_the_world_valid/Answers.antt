use Rattle.core_locks.proofs.wait.WaitLaws.{ended_valid}
use Rattle.core_locks.proofs.wait.waiting.storing_ended_keeps_the_world_valid.Goals as goal

pub returns : goal.returns
returns c = ended_valid
