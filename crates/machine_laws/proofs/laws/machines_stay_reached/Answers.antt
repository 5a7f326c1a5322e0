use Rattle.machine_laws.proofs.ReachedEntries.{progress}
use Rattle.machine_laws.proofs.ReachedFirst.{first_is_reached}
use Rattle.machine_laws.proofs.laws.machines_stay_reached.Goals as goal

pub returns-clause-first : goal.returns-clause-first
returns-clause-first c = first_is_reached

pub returns-clause-each : goal.returns-clause-each
returns-clause-each c = λ m n t e h takes. (progress m n t e h takes).reached
