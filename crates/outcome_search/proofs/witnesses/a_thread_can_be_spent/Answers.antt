use Rattle.outcome_search.proofs.Spinning.{spun}
use Rattle.outcome_search.proofs.witnesses.a_thread_can_be_spent.Goals as goal

pub returns : goal.returns
returns c = spun
