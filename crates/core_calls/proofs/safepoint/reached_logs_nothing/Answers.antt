use Rattle.core_calls.proofs.Runs.{tells}
use Rattle.core_calls.proofs.OtherCallsSay.{reached_call_says}
use Rattle.core_calls.proofs.safepoint.reached_logs_nothing.Goals as goal

pub returns-clause-steps : goal.returns-clause-steps
returns-clause-steps c = reached_call_says

pub returns-clause-run : goal.returns-clause-run
returns-clause-run c k shape start before after answer ran = tells (reached_call_says k) ran
