use Rattle.machine_laws.proofs.WrongMachines.{thread_not, ended_not, zero_not}
use Rattle.machine_laws.proofs.refused.what_is_not_offered_is_not_taken.Goals as goal

pub returns-clause-thread : goal.returns-clause-thread
returns-clause-thread c = thread_not

pub returns-clause-ended : goal.returns-clause-ended
returns-clause-ended c = ended_not

pub returns-clause-zero : goal.returns-clause-zero
returns-clause-zero c = zero_not
