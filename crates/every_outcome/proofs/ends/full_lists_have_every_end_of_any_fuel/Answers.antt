use Rattle.every_outcome.proofs.FullFuel.{over_is_known}
use Rattle.every_outcome.proofs.ends.full_lists_have_every_end_of_any_fuel.Goals as goal

pub returns : goal.returns
returns c = over_is_known
