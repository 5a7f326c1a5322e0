use Rattle.outcome_search.proofs.KnownEnds.{without_stuck}
use Rattle.outcome_search.proofs.laws.counts_without_stuck_ends.Goals as goal

pub returns : goal.returns
returns c = without_stuck
