use Rattle.core_locks.proofs.shot.RefutedShots.{no_such_shot}
use Rattle.core_locks.proofs.shot.no_shot_of_an_owner_without_its_enter.Goals as goal

pub returns : goal.returns
returns c w t u o e within object owner none valid = no_such_shot w t u o e valid within object owner none
