use Rattle.core_locks.proofs.monitor.RefutedMarks.{no_store_keeps, no_store_spends}
use Rattle.core_locks.proofs.refused.inflating.no_store_over_an_inflated_mark.Goals as goal

pub returns-clause-kept : goal.returns-clause-kept
returns-clause-kept c = no_store_keeps

pub returns-clause-spent : goal.returns-clause-spent
returns-clause-spent c = no_store_spends
