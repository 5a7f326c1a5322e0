use Rattle.core_made.proofs.NewsLogged.{logged_are_there}
use Rattle.core_made.proofs.laws.what_is_there_is_declared_or_logged.Goals as goal

pub returns : goal.returns
returns c w o limits law = logged_are_there w limits law o
