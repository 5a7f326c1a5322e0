use Rattle.machine_laws.proofs.ReachedOffered.{new_is_next}
use Rattle.machine_laws.proofs.laws.a_new_object_has_the_next_number_of_its_thread.Goals as goal

pub returns : goal.returns
returns c = new_is_next
