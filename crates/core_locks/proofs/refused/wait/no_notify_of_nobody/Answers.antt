use Rattle.core_locks.proofs.wait.RefutedWaits.{no_notify_of_nobody, no_notify_all_of_nobody}
use Rattle.core_locks.proofs.refused.wait.no_notify_of_nobody.Goals as goal

pub returns-clause-one : goal.returns-clause-one
returns-clause-one c = no_notify_of_nobody

pub returns-clause-all : goal.returns-clause-all
returns-clause-all c = no_notify_all_of_nobody
