use Rattle.core_calls.proofs.Runs.{tells}
use Rattle.core_calls.proofs.OtherCallsSay.{put_says}
use Rattle.core_calls.proofs.telling.put_logs_its_value.Goals as goal

pub returns-clause-steps : goal.returns-clause-steps
returns-clause-steps c = put_says

pub returns-clause-run : goal.returns-clause-run
returns-clause-run c k o slot value shape start before after answer ran = tells (put_says k o slot value) ran
