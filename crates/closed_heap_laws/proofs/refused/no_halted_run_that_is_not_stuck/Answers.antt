use Rattle.closed_heap_laws.proofs.OtherEnds.{free_to_enter, all_ended, hash_left}
use Rattle.closed_heap_laws.proofs.refused.no_halted_run_that_is_not_stuck.Goals as goal

pub returns-clause-enters : goal.returns-clause-enters
returns-clause-enters c = free_to_enter

pub returns-clause-ended : goal.returns-clause-ended
returns-clause-ended c = all_ended

pub returns-clause-hash : goal.returns-clause-hash
returns-clause-hash c = hash_left
