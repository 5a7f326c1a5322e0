use Rattle.turn_progress.proofs.Unbarred.{did_its_call}
use Rattle.turn_progress.proofs.refused.a_turn_that_did_its_last_call_is_not_barred.Goals as goal

pub returns : goal.returns
returns c = did_its_call
