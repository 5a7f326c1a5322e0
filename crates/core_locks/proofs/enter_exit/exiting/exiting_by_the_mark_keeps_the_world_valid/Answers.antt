use Rattle.core_locks.proofs.enter_exit.ExitMarks.{exits_by_the_mark, exit_misses}
use Rattle.core_locks.proofs.enter_exit.exiting.exiting_by_the_mark_keeps_the_world_valid.Goals as goal

pub returns-clause-hit : goal.returns-clause-hit
returns-clause-hit c = exits_by_the_mark

pub returns-clause-miss : goal.returns-clause-miss
returns-clause-miss c = exit_misses
