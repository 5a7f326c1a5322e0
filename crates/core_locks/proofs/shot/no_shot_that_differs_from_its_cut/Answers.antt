use Rattle.core_locks.proofs.shot.RefutedShots.{no_other_shown, no_cut_refused}
use Rattle.core_locks.proofs.shot.no_shot_that_differs_from_its_cut.Goals as goal

pub returns-clause-shown : goal.returns-clause-shown
returns-clause-shown c w objects t o e object after other valid = no_other_shown w t 0 o e valid objects object after other

pub returns-clause-cut : goal.returns-clause-cut
returns-clause-cut c w t e none valid = no_cut_refused w t 0 0 e valid none
