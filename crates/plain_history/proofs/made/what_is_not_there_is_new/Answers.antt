use Rattle.plain_history.proofs.NotThere.{not_there_is_new}
use Rattle.plain_history.proofs.made.what_is_not_there_is_new.Goals as goal

pub returns : goal.returns
returns c = not_there_is_new
