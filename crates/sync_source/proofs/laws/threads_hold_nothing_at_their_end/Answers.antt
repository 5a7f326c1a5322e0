use Rattle.sync_source.proofs.ExitsAndEnds.{none_held_at_end}
use Rattle.sync_source.proofs.laws.threads_hold_nothing_at_their_end.Goals as goal

pub returns : goal.returns
returns c = none_held_at_end
