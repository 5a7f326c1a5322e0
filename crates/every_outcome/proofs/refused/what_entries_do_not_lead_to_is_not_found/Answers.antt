use Rattle.every_outcome.proofs.WrongMachines.{entry_not, fuel_not}
use Rattle.every_outcome.proofs.refused.what_entries_do_not_lead_to_is_not_found.Goals as goal

pub returns-clause-entry : goal.returns-clause-entry
returns-clause-entry c = entry_not

pub returns-clause-fuel : goal.returns-clause-fuel
returns-clause-fuel c = fuel_not
