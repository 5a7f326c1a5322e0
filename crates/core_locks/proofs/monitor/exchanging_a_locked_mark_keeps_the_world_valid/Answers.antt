use Rattle.core_locks.proofs.monitor.Inflates.{inflates_locked}
use Rattle.core_locks.proofs.monitor.exchanging_a_locked_mark_keeps_the_world_valid.Goals as goal

pub returns : goal.returns
returns c = inflates_locked
