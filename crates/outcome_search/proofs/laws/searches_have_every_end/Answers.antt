use Rattle.outcome_search.proofs.Closed.{has_end}
use Rattle.outcome_search.proofs.laws.searches_have_every_end.Goals as goal

pub returns : goal.returns
returns c = λ p fuel steps most less f logs n valid free some h all few after over. has_end p fuel steps most f valid free some h all less logs n few after over
