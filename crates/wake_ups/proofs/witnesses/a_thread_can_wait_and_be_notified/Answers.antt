use Rattle.wake_ups.proofs.NotifiedThere.{waits_there, notified_there, told_there, halted_there}
use Rattle.wake_ups.proofs.witnesses.a_thread_can_wait_and_be_notified.Goals as goal

pub returns-clause-waits : goal.returns-clause-waits
returns-clause-waits c = waits_there

pub returns-clause-notified : goal.returns-clause-notified
returns-clause-notified c = notified_there

pub returns-clause-told : goal.returns-clause-told
returns-clause-told c = told_there

pub returns-clause-halted : goal.returns-clause-halted
returns-clause-halted c = halted_there
