use Rattle.core_locks.proofs.Prelude.{Mark}
use Rattle.core_locks.proofs.LookOn.{loads}
use Rattle.core_locks.proofs.looks.a_load_of_a_mark_keeps_the_world_valid.Goals as goal

pub returns : goal.returns
returns c e o = loads e (Mark o) (λ m is. absurd (cc is))
