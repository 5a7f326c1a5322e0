use Rattle.every_outcome.proofs.Printers.{exit_alone}
use Rattle.every_outcome.proofs.witnesses.an_exit_can_go_alone.Goals as goal

pub returns : goal.returns
returns c = exit_alone
