use Rattle.core_locks.proofs.wait.Leaves.{leaves_to_wait}
use Rattle.core_locks.proofs.wait.leaving_to_wait.logging_a_wait_keeps_the_world_valid.Goals as goal

pub returns : goal.returns
returns c = leaves_to_wait
