use Rattle.thread_logs.proofs.WrongLogs.{not_printed, not_referred}
use Rattle.thread_logs.proofs.refused.no_reference_that_no_entry_brought.Goals as goal

pub returns-clause-asked : goal.returns-clause-asked
returns-clause-asked c = not_printed

pub returns-clause-local : goal.returns-clause-local
returns-clause-local c = not_referred
