use Rattle.core_locks.proofs.enter_exit.HoldLaw.{stored_valid}
use Rattle.core_locks.proofs.enter_exit.holding.storing_a_hold_word_keeps_the_world_valid.Goals as goal

pub returns : goal.returns
returns c = stored_valid
