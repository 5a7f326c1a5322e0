use Rattle.core_locks.proofs.wait.Restores.{restores_recursions}
use Rattle.core_locks.proofs.wait.Regains.{regains_free}
use Rattle.core_locks.proofs.monitor.resuming_by_the_monitor_keeps_the_world_valid.Goals as goal

pub returns : goal.returns
returns c = record { owner = regains_free; recursions = restores_recursions }
