use Rattle.core_locks.proofs.deflation.RefutedClaims.{no_end_before_store}
use Rattle.core_locks.proofs.refused.deflation.no_end_moved_before_the_store.Goals as goal

pub returns : goal.returns
returns c = no_end_before_store
