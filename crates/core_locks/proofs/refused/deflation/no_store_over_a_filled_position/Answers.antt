use Rattle.core_locks.proofs.deflation.RefutedClaims.{no_store_filled}
use Rattle.core_locks.proofs.refused.deflation.no_store_over_a_filled_position.Goals as goal

pub returns : goal.returns
returns c = no_store_filled
