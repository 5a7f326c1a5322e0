use Rattle.core_calls.proofs.Runs.{tells}
use Rattle.core_calls.proofs.OtherCallsSay.{finish_says}
use Rattle.core_calls.proofs.telling.finish_logs_its_ending.Goals as goal

pub returns-clause-steps : goal.returns-clause-steps
returns-clause-steps c = finish_says

pub returns-clause-run : goal.returns-clause-run
returns-clause-run c k ending shape start before after answer ran = tells (finish_says k ending) ran
