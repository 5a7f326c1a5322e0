use Rattle.core_locks.proofs.hash.RefutedDraws.{no_second_draw}
use Rattle.core_locks.proofs.refused.no_second_draw.Goals as goal

pub returns : goal.returns
returns c = no_second_draw
