use Rattle.machine_laws.proofs.ReachedRange.{local_is_there, slot_is_there}
use Rattle.machine_laws.proofs.laws.what_a_reached_machine_refers_to_is_there.Goals as goal

pub returns-clause-local_value : goal.returns-clause-local_value
returns-clause-local_value c = local_is_there

pub returns-clause-slot_value : goal.returns-clause-slot_value
returns-clause-slot_value c = slot_is_there
