use Rattle.core_made.proofs.ShotTaken.{shot_keeps}
use Rattle.core_made.proofs.laws.keeping_a_shot_keeps_what_is_there.Goals as goal

pub returns : goal.returns
returns c w objects t e within may makes v law = shot_keeps w objects t e within may makes v law
