use Rattle.every_outcome.proofs.WrongMachines.{spent_not}
use Rattle.every_outcome.proofs.refused.a_spent_thread_goes_on_with_more_fuel.Goals as goal

pub returns : goal.returns
returns c = spent_not
