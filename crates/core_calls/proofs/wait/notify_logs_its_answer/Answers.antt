use Rattle.core_calls.proofs.Runs.{tells}
use Rattle.core_calls.proofs.wait.WaitCallsSay.{notify_says}
use Rattle.core_calls.proofs.wait.notify_logs_its_answer.Goals as goal

pub returns-clause-steps : goal.returns-clause-steps
returns-clause-steps c = notify_says

pub returns-clause-run : goal.returns-clause-run
returns-clause-run c s k o now shape start before after answer ran = tells (notify_says s k o now) ran
