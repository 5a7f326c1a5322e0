use Rattle.core_locks.proofs.wait.LetsGo.{drops_recursions, quits_monitor}
use Rattle.core_locks.proofs.monitor.letting_go_in_a_wait_keeps_the_world_valid.Goals as goal

pub returns : goal.returns
returns c = record { recursions = drops_recursions; owner = quits_monitor }
