use Rattle.core_locks.proofs.Prelude.{Waiting, Length}
use Rattle.core_locks.proofs.LookOn.{loads}
use Rattle.core_locks.proofs.looks.a_load_of_a_waiting_word_or_length_keeps_the_world_valid.Goals as goal

pub returns-clause-waiting : goal.returns-clause-waiting
returns-clause-waiting c e u = loads e (Waiting u) (λ m is. absurd (cc is))

pub returns-clause-length : goal.returns-clause-length
returns-clause-length c e u = loads e (Length u) (λ m is. absurd (cc is))
