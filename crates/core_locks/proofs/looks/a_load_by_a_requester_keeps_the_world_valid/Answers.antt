use Rattle.core_locks.proofs.LookOn.{loads_safepoint, still_learnt}
use Rattle.core_locks.proofs.looks.a_load_by_a_requester_keeps_the_world_valid.Goals as goal

pub returns-clause-valid : goal.returns-clause-valid
returns-clause-valid c e w P t within may valid = loads_safepoint e w P t within may.loads valid

pub returns-clause-learns : goal.returns-clause-learns
returns-clause-learns c = still_learnt
