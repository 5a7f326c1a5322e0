use Rattle.core_locks.proofs.hash.HashMark.{draws_mark, draw_misses_mark}
use Rattle.core_locks.proofs.hash.drawing_a_hash_into_a_mark_keeps_the_world_valid.Goals as goal

pub returns-clause-hit : goal.returns-clause-hit
returns-clause-hit c = draws_mark

pub returns-clause-miss : goal.returns-clause-miss
returns-clause-miss c = draw_misses_mark
