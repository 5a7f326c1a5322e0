use Rattle.core_locks.proofs.deflation.RefutedDeflations.{no_deflation_another}
use Rattle.core_locks.proofs.refused.deflation.no_deflation_of_another_monitor.Goals as goal

pub returns : goal.returns
returns c = no_deflation_another
