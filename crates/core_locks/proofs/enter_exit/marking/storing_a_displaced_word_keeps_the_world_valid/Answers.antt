use Rattle.core_locks.proofs.enter_exit.Displaces.{displaces}
use Rattle.core_locks.proofs.enter_exit.marking.storing_a_displaced_word_keeps_the_world_valid.Goals as goal

pub returns : goal.returns
returns c = displaces
