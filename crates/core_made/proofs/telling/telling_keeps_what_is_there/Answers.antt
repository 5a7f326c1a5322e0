use Rattle.core_made.proofs.EntriesTold.{telling_keeps}
use Rattle.core_made.proofs.telling.telling_keeps_what_is_there.Goals as goal

pub returns : goal.returns
returns c = telling_keeps
