use Rattle.solo_progress.proofs.Missing.{no_forgetting}
use Rattle.solo_progress.proofs.refused.no_wait_that_forgets_its_notify.Goals as goal

pub returns : goal.returns
returns c = no_forgetting
