use Rattle.core_calls.proofs.Runs.{tells}
use Rattle.core_calls.proofs.enter_exit.EntersSay.{exit_says}
use Rattle.core_calls.proofs.enter_exit.exit_logs_its_answer.Goals as goal

pub returns-clause-steps : goal.returns-clause-steps
returns-clause-steps c = exit_says

pub returns-clause-run : goal.returns-clause-run
returns-clause-run c k o shape start before after answer ran = tells (exit_says k o) ran
