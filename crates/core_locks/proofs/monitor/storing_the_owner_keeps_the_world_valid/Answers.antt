use Rattle.core_locks.proofs.monitor.TakesOver.{takes_over_own}
use Rattle.core_locks.proofs.monitor.storing_the_owner_keeps_the_world_valid.Goals as goal

pub returns : goal.returns
returns c = takes_over_own
