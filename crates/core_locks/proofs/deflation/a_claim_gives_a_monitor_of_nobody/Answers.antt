use Rattle.core_locks.proofs.monitor.Fetches.{of_nobody}
use Rattle.core_locks.proofs.deflation.a_claim_gives_a_monitor_of_nobody.Goals as goal

pub returns : goal.returns
returns c = of_nobody
