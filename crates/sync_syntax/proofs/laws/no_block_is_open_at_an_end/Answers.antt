use Rattle.sync_syntax.proofs.Closed.{none_open_at_end}
use Rattle.sync_syntax.proofs.laws.no_block_is_open_at_an_end.Goals as goal

pub returns : goal.returns
returns c = none_open_at_end
