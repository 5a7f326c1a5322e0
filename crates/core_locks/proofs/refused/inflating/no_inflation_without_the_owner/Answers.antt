use Rattle.core_locks.proofs.monitor.RefutedMarks.{no_owner_resting, no_owner_open, no_owner_exchanged}
use Rattle.core_locks.proofs.refused.inflating.no_inflation_without_the_owner.Goals as goal

pub returns-clause-resting : goal.returns-clause-resting
returns-clause-resting c = no_owner_resting

pub returns-clause-free : goal.returns-clause-free
returns-clause-free c = no_owner_open

pub returns-clause-exchanged : goal.returns-clause-exchanged
returns-clause-exchanged c = no_owner_exchanged
