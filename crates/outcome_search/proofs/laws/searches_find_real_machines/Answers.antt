use Rattle.outcome_search.proofs.Closed.{real_at, once_at}
use Rattle.outcome_search.proofs.laws.searches_find_real_machines.Goals as goal

pub returns-clause-real : goal.returns-clause-real
returns-clause-real c = λ p fuel steps most k f key valid free some h. real_at p fuel steps most f valid free some h k key

pub returns-clause-once : goal.returns-clause-once
returns-clause-once c = λ p fuel steps most j k f one two valid free some h. once_at p fuel steps most f valid free some h j k one two
