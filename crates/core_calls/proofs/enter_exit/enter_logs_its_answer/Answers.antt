use Rattle.core_calls.proofs.Runs.{tells}
use Rattle.core_calls.proofs.enter_exit.EntersSay.{enter_says}
use Rattle.core_calls.proofs.enter_exit.enter_logs_its_answer.Goals as goal

pub returns-clause-steps : goal.returns-clause-steps
returns-clause-steps c = enter_says

pub returns-clause-run : goal.returns-clause-run
returns-clause-run c s k o now shape start before after answer ran = tells (enter_says s k o now) ran
