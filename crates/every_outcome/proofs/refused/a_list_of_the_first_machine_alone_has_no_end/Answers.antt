use Rattle.every_outcome.proofs.WrongMachines.{closed_not, full_not}
use Rattle.every_outcome.proofs.refused.a_list_of_the_first_machine_alone_has_no_end.Goals as goal

pub returns-clause-closed : goal.returns-clause-closed
returns-clause-closed c = closed_not

pub returns-clause-full : goal.returns-clause-full
returns-clause-full c = full_not
