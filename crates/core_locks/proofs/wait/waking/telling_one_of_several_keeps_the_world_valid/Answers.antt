use Rattle.core_locks.proofs.wait.WakesNext.{waking_next_valid}
use Rattle.core_locks.proofs.wait.waking.telling_one_of_several_keeps_the_world_valid.Goals as goal

pub returns : goal.returns
returns c = waking_next_valid
