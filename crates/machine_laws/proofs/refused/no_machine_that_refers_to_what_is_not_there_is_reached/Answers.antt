use Rattle.machine_laws.proofs.WrongMachines.{local_nowhere, slot_nowhere}
use Rattle.machine_laws.proofs.refused.no_machine_that_refers_to_what_is_not_there_is_reached.Goals as goal

pub returns-clause-local_value : goal.returns-clause-local_value
returns-clause-local_value c = local_nowhere

pub returns-clause-slot_value : goal.returns-clause-slot_value
returns-clause-slot_value c = slot_nowhere
