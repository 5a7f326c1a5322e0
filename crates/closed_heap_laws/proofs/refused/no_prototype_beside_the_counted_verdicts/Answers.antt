use Rattle.closed_heap_laws.proofs.OtherEnds.{still_biased, old_epoch, early_epoch, biased_plainly}
use Rattle.closed_heap_laws.proofs.refused.no_prototype_beside_the_counted_verdicts.Goals as goal

pub returns-clause-revoked : goal.returns-clause-revoked
returns-clause-revoked c = still_biased

pub returns-clause-rebiased : goal.returns-clause-rebiased
returns-clause-rebiased c = old_epoch

pub returns-clause-early : goal.returns-clause-early
returns-clause-early c = early_epoch

pub returns-clause-plain : goal.returns-clause-plain
returns-clause-plain c = biased_plainly
