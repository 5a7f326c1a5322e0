use Rattle.core_calls.proofs.Runs.{tells}
use Rattle.core_calls.proofs.OtherCallsSay.{get_says}
use Rattle.core_calls.proofs.telling.get_logs_its_answer.Goals as goal

pub returns-clause-steps : goal.returns-clause-steps
returns-clause-steps c = get_says

pub returns-clause-run : goal.returns-clause-run
returns-clause-run c k o slot shape start before after answer ran = tells (get_says k o slot) ran
