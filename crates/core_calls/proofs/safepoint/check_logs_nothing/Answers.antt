use Rattle.core_calls.proofs.Runs.{tells}
use Rattle.core_calls.proofs.OtherCallsSay.{check_says}
use Rattle.core_calls.proofs.safepoint.Leaving.{check_halts}
use Rattle.core_calls.proofs.safepoint.check_logs_nothing.Goals as goal

pub returns-clause-steps : goal.returns-clause-steps
returns-clause-steps c = check_says

pub returns-clause-run : goal.returns-clause-run
returns-clause-run c s k shape start before after answer ran = tells (check_says s k) ran

pub returns-clause-halted : goal.returns-clause-halted
returns-clause-halted c s k shape start before after ran = check_halts shape start s k before after ran
