use Rattle.outcome_search.proofs.KnownEnds.{real_end}
use Rattle.outcome_search.proofs.laws.counted_ends_are_real.Goals as goal

pub returns : goal.returns
returns c = real_end
