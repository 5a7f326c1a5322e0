use Rattle.core_calls.proofs.Runs.{tells}
use Rattle.core_calls.proofs.wait.WaitCallsSay.{hash_says}
use Rattle.core_calls.proofs.telling.hash_logs_its_answer.Goals as goal

pub returns-clause-steps : goal.returns-clause-steps
returns-clause-steps c = hash_says

pub returns-clause-run : goal.returns-clause-run
returns-clause-run c s k o now shape start before after answer ran = tells (hash_says s k o now) ran
