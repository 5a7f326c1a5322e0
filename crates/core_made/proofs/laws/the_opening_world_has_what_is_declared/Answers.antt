use Rattle.core_made.proofs.Opening.{opening_meets}
use Rattle.core_made.proofs.laws.the_opening_world_has_what_is_declared.Goals as goal

pub returns : goal.returns
returns c = opening_meets
