use Rattle.core_locks.proofs.enter_exit.ExitHolds.{exits_by_a_hold_word}
use Rattle.core_locks.proofs.enter_exit.exiting.exiting_by_a_hold_word_keeps_the_world_valid.Goals as goal

pub returns : goal.returns
returns c = exits_by_a_hold_word
