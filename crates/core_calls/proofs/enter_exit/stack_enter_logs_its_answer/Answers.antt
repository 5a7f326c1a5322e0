use Rattle.core_calls.proofs.Runs.{tells}
use Rattle.core_calls.proofs.OtherCallsSay.{stack_enter_call_says}
use Rattle.core_calls.proofs.enter_exit.stack_enter_logs_its_answer.Goals as goal

pub returns-clause-steps : goal.returns-clause-steps
returns-clause-steps c = stack_enter_call_says

pub returns-clause-run : goal.returns-clause-run
returns-clause-run c k o mark shape start before after answer ran = tells (stack_enter_call_says k o mark) ran
