use Rattle.core_locks.proofs.deflation.Cleans.{cleans_owner, cleans_count, cleans_head, cleans_object}
use Rattle.core_locks.proofs.deflation.clearing_an_idle_monitor_keeps_the_world_valid.Goals as goal

pub returns : goal.returns
returns c = record { owner = cleans_owner; recursions = cleans_count; header = cleans_head; object = cleans_object }
