use Rattle.core_world.proofs.OpeningFits.{opening_fits, opening_valid}
use Rattle.core_world.proofs.laws.the_opening_world_is_valid.Goals as goal

pub returns-clause-fits : goal.returns-clause-fits
returns-clause-fits c = opening_fits

pub returns-clause-valid : goal.returns-clause-valid
returns-clause-valid c = opening_valid
