use Rattle.core_locks.proofs.monitor.Frees.{frees_owner}
use Rattle.core_locks.proofs.monitor.freeing_a_monitor_keeps_the_world_valid.Goals as goal

pub returns : goal.returns
returns c = frees_owner
