use Rattle.small_runs.proofs.AtRest.{holding, waits_at_rest, free}
use Rattle.small_runs.proofs.witnesses.small_heaps_have_threads_at_rest.Goals as goal

pub returns-clause-holds : goal.returns-clause-holds
returns-clause-holds c = holding

pub returns-clause-waits : goal.returns-clause-waits
returns-clause-waits c = waits_at_rest

pub returns-clause-free : goal.returns-clause-free
returns-clause-free c = free
