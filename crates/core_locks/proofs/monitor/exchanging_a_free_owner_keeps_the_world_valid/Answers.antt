use Rattle.core_locks.proofs.monitor.Grabs.{grabs_free}
use Rattle.core_locks.proofs.monitor.exchanging_a_free_owner_keeps_the_world_valid.Goals as goal

pub returns : goal.returns
returns c = grabs_free
