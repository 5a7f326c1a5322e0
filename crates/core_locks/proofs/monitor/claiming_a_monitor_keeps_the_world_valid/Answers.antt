use Rattle.core_locks.proofs.monitor.Claims.{claims_one}
use Rattle.core_locks.proofs.monitor.Fetches.{fetches_one}
use Rattle.core_locks.proofs.monitor.claiming_a_monitor_keeps_the_world_valid.Goals as goal

pub returns : goal.returns
returns c = record { position = claims_one; monitor = fetches_one }
