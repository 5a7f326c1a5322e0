use Rattle.core_locks.proofs.enter_exit.HoldCleared.{cleared_valid}
use Rattle.core_locks.proofs.enter_exit.holding.clearing_a_hold_word_keeps_the_world_valid.Goals as goal

pub returns : goal.returns
returns c = cleared_valid
