use Rattle.outcome_search.proofs.EveryEnds.{every_end}
use Rattle.outcome_search.proofs.laws.searches_find_every_end.Goals as goal

pub returns : goal.returns
returns c = every_end
