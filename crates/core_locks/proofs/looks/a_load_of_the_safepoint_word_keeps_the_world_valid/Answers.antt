use Rattle.core_locks.proofs.LookOn.{loads_safepoint}
use Rattle.core_locks.proofs.looks.a_load_of_the_safepoint_word_keeps_the_world_valid.Goals as goal

pub returns : goal.returns
returns c = loads_safepoint
