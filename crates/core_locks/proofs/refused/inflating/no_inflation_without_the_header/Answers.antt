use Rattle.core_locks.proofs.monitor.RefutedMarks.{no_header_stored, no_header_exchanged}
use Rattle.core_locks.proofs.refused.inflating.no_inflation_without_the_header.Goals as goal

pub returns-clause-stored : goal.returns-clause-stored
returns-clause-stored c = no_header_stored

pub returns-clause-exchanged : goal.returns-clause-exchanged
returns-clause-exchanged c = no_header_exchanged
