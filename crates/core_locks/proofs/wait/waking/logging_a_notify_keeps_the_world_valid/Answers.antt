use Rattle.core_locks.proofs.wait.WakesCalls.{notify_logs}
use Rattle.core_locks.proofs.wait.waking.logging_a_notify_keeps_the_world_valid.Goals as goal

pub returns : goal.returns
returns c = notify_logs
