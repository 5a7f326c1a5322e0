use Rattle.every_outcome.proofs.WrongMachines.{stuck_not}
use Rattle.every_outcome.proofs.refused.a_thread_that_nobody_notifies_is_stuck.Goals as goal

pub returns : goal.returns
returns c = stuck_not
