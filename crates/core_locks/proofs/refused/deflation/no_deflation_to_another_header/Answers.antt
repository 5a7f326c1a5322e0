use Rattle.core_locks.proofs.deflation.RefutedDeflations.{no_deflation_otherwise}
use Rattle.core_locks.proofs.refused.deflation.no_deflation_to_another_header.Goals as goal

pub returns : goal.returns
returns c = no_deflation_otherwise
