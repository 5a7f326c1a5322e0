use Rattle.every_outcome.proofs.Shut.{enter_shuts_out}
use Rattle.every_outcome.proofs.refused.first_enters_do_not_go_alone.Goals as goal

pub returns : goal.returns
returns c = enter_shuts_out
