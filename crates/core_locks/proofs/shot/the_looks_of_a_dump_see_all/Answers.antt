use Rattle.core_locks.proofs.shot.ShotTree.{looks_first, looks_see}
use Rattle.core_locks.proofs.shot.the_looks_of_a_dump_see_all.Goals as goal

pub returns-clause-first : goal.returns-clause-first
returns-clause-first c = looks_first

pub returns-clause-see : goal.returns-clause-see
returns-clause-see c k e s h = looks_see k e s _ h
