use Rattle.every_outcome.proofs.WrongMachines.{other_program_not}
use Rattle.every_outcome.proofs.refused.a_machine_of_another_program_is_under_no_logs.Goals as goal

pub returns : goal.returns
returns c = other_program_not
