use Rattle.solo_progress.proofs.Laws.{stack_enters, stack_exits, requests, reaches}
use Rattle.solo_progress.proofs.through.a_thread_left_alone_gets_through_parts.Goals as goal

pub returns-clause-stack_enter : goal.returns-clause-stack_enter
returns-clause-stack_enter c = stack_enters

pub returns-clause-stack_exit : goal.returns-clause-stack_exit
returns-clause-stack_exit c = stack_exits

pub returns-clause-request : goal.returns-clause-request
returns-clause-request c = requests

pub returns-clause-reached : goal.returns-clause-reached
returns-clause-reached c = reaches
