use Rattle.outcome_search.proofs.Closed.{closed}
use Rattle.outcome_search.proofs.laws.searches_are_closed.Goals as goal

pub returns : goal.returns
returns c = closed
