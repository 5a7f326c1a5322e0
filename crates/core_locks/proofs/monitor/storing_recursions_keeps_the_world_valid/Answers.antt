use Rattle.core_locks.proofs.monitor.Counting.{raises_count, lowers_count, resets_count}
use Rattle.core_locks.proofs.monitor.storing_recursions_keeps_the_world_valid.Goals as goal

pub returns : goal.returns
returns c = record { up = raises_count; down = lowers_count; none = resets_count }
