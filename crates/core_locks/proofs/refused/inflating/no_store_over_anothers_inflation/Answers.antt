use Rattle.core_locks.proofs.monitor.RefutedMarks.{no_store_names, no_store_inflates}
use Rattle.core_locks.proofs.refused.inflating.no_store_over_anothers_inflation.Goals as goal

pub returns-clause-named : goal.returns-clause-named
returns-clause-named c = no_store_names

pub returns-clause-zero : goal.returns-clause-zero
returns-clause-zero c = no_store_inflates
