use Rattle.step_history.proofs.Missed.{turn_leads_not, turn_reaches_not, may_not_begin}
use Rattle.step_history.proofs.refused.no_turn_of_no_thread_or_of_a_call_that_may_not_begin.Goals as goal

pub returns-clause-leads : goal.returns-clause-leads
returns-clause-leads c w xs t task = turn_leads_not w t task xs

pub returns-clause-reached : goal.returns-clause-reached
returns-clause-reached c heap w t task = turn_reaches_not w t task heap

pub returns-clause-begins : goal.returns-clause-begins
returns-clause-begins c = may_not_begin
