use Rattle.machine_laws.proofs.WrongMachines.{waits_on, live_not, stuck_not, spent_not}
use Rattle.machine_laws.proofs.refused.logs_that_end_with_a_wait_say_no_ending.Goals as goal

pub returns-clause-waits : goal.returns-clause-waits
returns-clause-waits c = waits_on

pub returns-clause-live : goal.returns-clause-live
returns-clause-live c = live_not

pub returns-clause-stuck : goal.returns-clause-stuck
returns-clause-stuck c = stuck_not

pub returns-clause-spent : goal.returns-clause-spent
returns-clause-spent c = spent_not
