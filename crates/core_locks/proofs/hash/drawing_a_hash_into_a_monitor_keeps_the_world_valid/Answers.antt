use Rattle.core_locks.proofs.hash.HashHeader.{draws_header, draw_misses_header}
use Rattle.core_locks.proofs.hash.drawing_a_hash_into_a_monitor_keeps_the_world_valid.Goals as goal

pub returns-clause-hit : goal.returns-clause-hit
returns-clause-hit c = draws_header

pub returns-clause-miss : goal.returns-clause-miss
returns-clause-miss c = draw_misses_header
