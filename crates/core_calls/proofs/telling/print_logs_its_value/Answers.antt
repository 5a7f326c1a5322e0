use Rattle.core_calls.proofs.Runs.{tells}
use Rattle.core_calls.proofs.OtherCallsSay.{print_says}
use Rattle.core_calls.proofs.telling.print_logs_its_value.Goals as goal

pub returns-clause-steps : goal.returns-clause-steps
returns-clause-steps c = print_says

pub returns-clause-run : goal.returns-clause-run
returns-clause-run c k value shape start before after answer ran = tells (print_says k value) ran
