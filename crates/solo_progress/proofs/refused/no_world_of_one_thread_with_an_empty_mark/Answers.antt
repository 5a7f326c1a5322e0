use Rattle.solo_progress.proofs.OtherAnswers.{no_mark_of_none, no_prototype_of_none, no_other_owner}
use Rattle.solo_progress.proofs.refused.no_world_of_one_thread_with_an_empty_mark.Goals as goal

pub returns-clause-marks : goal.returns-clause-marks
returns-clause-marks c = no_mark_of_none

pub returns-clause-prototypes : goal.returns-clause-prototypes
returns-clause-prototypes c = no_prototype_of_none

pub returns-clause-owners : goal.returns-clause-owners
returns-clause-owners c = no_other_owner
