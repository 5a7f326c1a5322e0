use Rattle.machine_laws.proofs.ExampleMachines.{refers, owns, dumps}
use Rattle.machine_laws.proofs.witnesses.a_reached_machine_can_refer_own_and_dump.Goals as goal

pub returns-clause-refers : goal.returns-clause-refers
returns-clause-refers c = refers

pub returns-clause-owns : goal.returns-clause-owns
returns-clause-owns c = owns

pub returns-clause-dumps : goal.returns-clause-dumps
returns-clause-dumps c = dumps
