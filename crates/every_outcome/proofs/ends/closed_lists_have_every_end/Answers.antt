use Rattle.every_outcome.proofs.Over.{over_is_seen}
use Rattle.every_outcome.proofs.ends.closed_lists_have_every_end.Goals as goal

pub returns : goal.returns
returns c = over_is_seen
