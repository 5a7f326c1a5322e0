use Rattle.step_history.proofs.Missed.{nothing_new, no_log, no_other_step}
use Rattle.step_history.proofs.refused.no_thread_knows_more_than_its_steps.Goals as goal

pub returns-clause-leads : goal.returns-clause-leads
returns-clause-leads c = nothing_new

pub returns-clause-reached : goal.returns-clause-reached
returns-clause-reached c = no_log

pub returns-clause-own : goal.returns-clause-own
returns-clause-own c = no_other_step
