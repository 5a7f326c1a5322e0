use Rattle.core_locks.proofs.Prelude.{Displaced}
use Rattle.core_locks.proofs.LookOn.{loads}
use Rattle.core_locks.proofs.looks.a_load_of_a_displaced_word_keeps_the_world_valid.Goals as goal

pub returns : goal.returns
returns c e u p = loads e (Displaced u p) (λ m is. absurd (cc is))
