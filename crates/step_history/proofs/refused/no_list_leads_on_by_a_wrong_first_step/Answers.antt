use Rattle.step_history.proofs.Missed.{no_thread, not_next, not_found}
use Rattle.step_history.proofs.refused.no_list_leads_on_by_a_wrong_first_step.Goals as goal

pub returns-clause-thread : goal.returns-clause-thread
returns-clause-thread c = no_thread

pub returns-clause-next : goal.returns-clause-next
returns-clause-next c = not_next

pub returns-clause-found : goal.returns-clause-found
returns-clause-found c = not_found
