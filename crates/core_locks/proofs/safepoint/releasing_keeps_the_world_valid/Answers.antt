use Rattle.core_locks.proofs.safepoint.SafeEnds.{reached_finds, releasing_valid, releasing_taking}
use Rattle.core_locks.proofs.safepoint.releasing_keeps_the_world_valid.Goals as goal

pub returns-clause-finds : goal.returns-clause-finds
returns-clause-finds c = reached_finds

pub returns-clause-valid : goal.returns-clause-valid
returns-clause-valid c = releasing_valid

pub returns-clause-taking : goal.returns-clause-taking
returns-clause-taking c = releasing_taking
