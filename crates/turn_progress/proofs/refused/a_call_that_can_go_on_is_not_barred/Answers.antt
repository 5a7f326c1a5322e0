use Rattle.turn_progress.proofs.Unbarred.{enter_goes_on, wait_goes_on, resume_goes_on, another_goes_on}
use Rattle.turn_progress.proofs.refused.a_call_that_can_go_on_is_not_barred.Goals as goal

pub returns-clause-enter : goal.returns-clause-enter
returns-clause-enter c = enter_goes_on

pub returns-clause-wait : goal.returns-clause-wait
returns-clause-wait c = wait_goes_on

pub returns-clause-resume : goal.returns-clause-resume
returns-clause-resume c = resume_goes_on

pub returns-clause-another : goal.returns-clause-another
returns-clause-another c = another_goes_on
