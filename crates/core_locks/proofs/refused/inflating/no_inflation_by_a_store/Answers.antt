use Rattle.core_locks.proofs.monitor.RefutedMarks.{no_store_of_zero}
use Rattle.core_locks.proofs.refused.inflating.no_inflation_by_a_store.Goals as goal

pub returns : goal.returns
returns c = no_store_of_zero
