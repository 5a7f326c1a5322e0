use Rattle.core_locks.proofs.deflation.RefutedDeflations.{no_deflation_owned, no_deflation_waited, no_deflation_notified, no_deflation_entered}
use Rattle.core_locks.proofs.refused.deflation.no_deflation_of_a_monitor_in_use.Goals as goal

pub returns-clause-owned : goal.returns-clause-owned
returns-clause-owned c = no_deflation_owned

pub returns-clause-waited : goal.returns-clause-waited
returns-clause-waited c = no_deflation_waited

pub returns-clause-notified : goal.returns-clause-notified
returns-clause-notified c = no_deflation_notified

pub returns-clause-entered : goal.returns-clause-entered
returns-clause-entered c = no_deflation_entered
