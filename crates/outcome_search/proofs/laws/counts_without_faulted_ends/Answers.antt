use Rattle.outcome_search.proofs.KnownEnds.{without_faulted}
use Rattle.outcome_search.proofs.laws.counts_without_faulted_ends.Goals as goal

pub returns : goal.returns
returns c = without_faulted
