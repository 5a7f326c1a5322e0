use Rattle.turn_progress.proofs.Unbarred.{live_goes_on}
use Rattle.turn_progress.proofs.refused.a_live_turn_has_neither_ended_nor_is_barred.Goals as goal

pub returns : goal.returns
returns c = live_goes_on
