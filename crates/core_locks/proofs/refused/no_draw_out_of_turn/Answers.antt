use Rattle.core_locks.proofs.hash.RefutedDraws.{no_draw_out_of_turn}
use Rattle.core_locks.proofs.refused.no_draw_out_of_turn.Goals as goal

pub returns : goal.returns
returns c = no_draw_out_of_turn
