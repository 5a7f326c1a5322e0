use Rattle.core_calls.proofs.StandsKnown.{stand_along}
use Rattle.core_calls.proofs.standing.a_thread_knows_how_it_stands.Goals as goal

pub returns : goal.returns
returns c s start ms k = stand_along s start ms k
