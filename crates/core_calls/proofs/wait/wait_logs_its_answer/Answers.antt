use Rattle.core_calls.proofs.Runs.{tells}
use Rattle.core_calls.proofs.wait.WaitCallsSay.{wait_says}
use Rattle.core_calls.proofs.wait.wait_logs_its_answer.Goals as goal

pub returns-clause-steps : goal.returns-clause-steps
returns-clause-steps c = wait_says

pub returns-clause-run : goal.returns-clause-run
returns-clause-run c s k o now shape start before after answer ran = tells (wait_says s k o now) ran
