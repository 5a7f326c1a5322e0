use Rattle.core_locks.proofs.shot.Shoots.{keeps_shot, shot_kept, shot_shows}
use Rattle.core_locks.proofs.shot.keeping_a_shot_keeps_the_world_valid.Goals as goal

pub returns-clause-valid : goal.returns-clause-valid
returns-clause-valid c = keeps_shot

pub returns-clause-keeps : goal.returns-clause-keeps
returns-clause-keeps c = shot_kept

pub returns-clause-shows : goal.returns-clause-shows
returns-clause-shows c = shot_shows
