use Rattle.machine_laws.proofs.ExampleMachines.{asks}
use Rattle.machine_laws.proofs.witnesses.a_thread_can_ask_for_a_new_object.Goals as goal

pub returns : goal.returns
returns c = asks
