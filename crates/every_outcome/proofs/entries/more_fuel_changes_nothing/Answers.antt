use Rattle.every_outcome.proofs.MoreFuel.{run_more}
use Rattle.every_outcome.proofs.entries.more_fuel_changes_nothing.Goals as goal

pub returns : goal.returns
returns c = λ n d g top p i s alive. run_more n d g top s.mode p i s alive
