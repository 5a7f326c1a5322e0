use Rattle.core_locks.proofs.safepoint.SafeEnds.{reached_finds, halting_valid}
use Rattle.core_locks.proofs.safepoint.halting_keeps_the_world_valid.Goals as goal

pub returns-clause-finds : goal.returns-clause-finds
returns-clause-finds c = reached_finds

pub returns-clause-valid : goal.returns-clause-valid
returns-clause-valid c = halting_valid
