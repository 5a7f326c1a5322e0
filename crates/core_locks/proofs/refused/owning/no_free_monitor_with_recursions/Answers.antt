use Rattle.core_locks.proofs.monitor.RefutedOwners.{no_exit_with_recursions, no_wait_with_recursions}
use Rattle.core_locks.proofs.refused.owning.no_free_monitor_with_recursions.Goals as goal

pub returns-clause-exit : goal.returns-clause-exit
returns-clause-exit c = no_exit_with_recursions

pub returns-clause-wait : goal.returns-clause-wait
returns-clause-wait c = no_wait_with_recursions
