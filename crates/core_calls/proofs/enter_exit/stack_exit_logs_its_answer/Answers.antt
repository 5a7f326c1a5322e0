use Rattle.core_calls.proofs.Runs.{tells}
use Rattle.core_calls.proofs.OtherCallsSay.{stack_exit_call_says}
use Rattle.core_calls.proofs.enter_exit.stack_exit_logs_its_answer.Goals as goal

pub returns-clause-steps : goal.returns-clause-steps
returns-clause-steps c = stack_exit_call_says

pub returns-clause-run : goal.returns-clause-run
returns-clause-run c k o shape start before after answer ran = tells (stack_exit_call_says k o) ran
