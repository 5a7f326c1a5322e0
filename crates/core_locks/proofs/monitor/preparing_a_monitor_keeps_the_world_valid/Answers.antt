use Rattle.core_locks.proofs.monitor.Prepares.{prepares_owner, prepares_recursions, prepares_header, prepares_object}
use Rattle.core_locks.proofs.monitor.preparing_a_monitor_keeps_the_world_valid.Goals as goal

pub returns : goal.returns
returns c = record { owner = prepares_owner; recursions = prepares_recursions; header = prepares_header; object = prepares_object }
