use Rattle.step_history.proofs.Turned.{turns_lead, turns_reach}
use Rattle.step_history.proofs.reaching.turns_lead_on.Goals as goal

pub returns-clause-leads : goal.returns-clause-leads
returns-clause-leads c = turns_lead

pub returns-clause-reached : goal.returns-clause-reached
returns-clause-reached c = turns_reach
