use Rattle.core_calls.proofs.Runs.{tells}
use Rattle.core_calls.proofs.OtherCallsSay.{stop_call_says}
use Rattle.core_calls.proofs.safepoint.Leaving.{stop_publishes}
use Rattle.core_calls.proofs.safepoint.stop_logs_nothing.Goals as goal

pub returns-clause-steps : goal.returns-clause-steps
returns-clause-steps c = stop_call_says

pub returns-clause-run : goal.returns-clause-run
returns-clause-run c k shape start before after answer ran = tells (stop_call_says k) ran

pub returns-clause-leaves : goal.returns-clause-leaves
returns-clause-leaves c k shape start before after ran = stop_publishes shape start k before after ran
