use Rattle.core_locks.proofs.shot.ValidShots.{valid_shots}
use Rattle.core_locks.proofs.shot.each_shot_is_right.Goals as goal

pub returns : goal.returns
returns c = valid_shots
