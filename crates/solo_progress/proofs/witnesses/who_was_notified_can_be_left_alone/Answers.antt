use Rattle.solo_progress.proofs.NotifiedReady.{told_ready}
use Rattle.solo_progress.proofs.witnesses.who_was_notified_can_be_left_alone.Goals as goal

pub returns : goal.returns
returns c = told_ready
