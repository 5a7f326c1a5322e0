use Rattle.every_outcome.proofs.NotReached.{no_fuel_not, holds_not}
use Rattle.every_outcome.proofs.refused.machines_without_fuel_or_with_other_holds_are_not_reached.Goals as goal

pub returns-clause-fuel : goal.returns-clause-fuel
returns-clause-fuel c = no_fuel_not

pub returns-clause-holds : goal.returns-clause-holds
returns-clause-holds c = holds_not
