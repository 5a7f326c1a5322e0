use Rattle.core_locks.proofs.hash.HashFinds.{finds_in_mark, looks_in_mark}
use Rattle.core_locks.proofs.hash.finding_a_hash_in_a_mark_keeps_the_world_valid.Goals as goal

pub returns-clause-found : goal.returns-clause-found
returns-clause-found c = finds_in_mark

pub returns-clause-none : goal.returns-clause-none
returns-clause-none c = looks_in_mark
