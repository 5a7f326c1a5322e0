use Rattle.outcome_search.proofs.Spinning.{leads_there}
use Rattle.outcome_search.proofs.witnesses.a_way_can_lead_to_an_end.Goals as goal

pub returns : goal.returns
returns c = leads_there
