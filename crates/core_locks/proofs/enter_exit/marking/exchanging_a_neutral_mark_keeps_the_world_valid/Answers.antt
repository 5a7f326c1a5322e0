use Rattle.core_locks.proofs.enter_exit.Seizes.{seizes}
use Rattle.core_locks.proofs.enter_exit.marking.exchanging_a_neutral_mark_keeps_the_world_valid.Goals as goal

pub returns : goal.returns
returns c = seizes
