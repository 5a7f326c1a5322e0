use Rattle.machine_laws.proofs.WrongMachines.{late_not}
use Rattle.machine_laws.proofs.refused.logs_that_print_what_is_not_there_are_not_made_in_time.Goals as goal

pub returns : goal.returns
returns c = late_not
