use Rattle.wake_ups.proofs.OtherWakeUps.{not_forgotten}
use Rattle.wake_ups.proofs.refused.no_run_that_forgets_who_was_notified.Goals as goal

pub returns : goal.returns
returns c = not_forgotten
