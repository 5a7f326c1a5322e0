use Rattle.solo_progress.proofs.OtherAnswers.{no_stack_enter, no_stack_exit, no_request, no_reached}
use Rattle.solo_progress.proofs.refused.no_part_left_alone_answers_otherwise.Goals as goal

pub returns-clause-stack_enter : goal.returns-clause-stack_enter
returns-clause-stack_enter c = no_stack_enter

pub returns-clause-stack_exit : goal.returns-clause-stack_exit
returns-clause-stack_exit c = no_stack_exit

pub returns-clause-request : goal.returns-clause-request
returns-clause-request c = no_request

pub returns-clause-reached : goal.returns-clause-reached
returns-clause-reached c = no_reached
