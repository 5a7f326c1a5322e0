use Rattle.sync_source.proofs.ExitsAndEnds.{no_exit_faults, no_exit_logged}
use Rattle.sync_source.proofs.laws.exits_never_fault.Goals as goal

pub returns : goal.returns
returns c = record { logged = no_exit_logged; ending = no_exit_faults }
