use Rattle.machine_laws.proofs.WrongMachines.{same_not, more_not}
use Rattle.machine_laws.proofs.refused.no_entry_leaves_the_work_that_there_was.Goals as goal

pub returns-clause-same : goal.returns-clause-same
returns-clause-same c = same_not

pub returns-clause-more : goal.returns-clause-more
returns-clause-more c = more_not
