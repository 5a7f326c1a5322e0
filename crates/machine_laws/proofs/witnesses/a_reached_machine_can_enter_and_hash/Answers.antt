use Rattle.machine_laws.proofs.ExampleMachines.{enters, hashes}
use Rattle.machine_laws.proofs.witnesses.a_reached_machine_can_enter_and_hash.Goals as goal

pub returns-clause-enters : goal.returns-clause-enters
returns-clause-enters c = enters

pub returns-clause-hashes : goal.returns-clause-hashes
returns-clause-hashes c = hashes
