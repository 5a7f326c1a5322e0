use Rattle.wait_report.proofs.Stuck.{one_waits, has_cycle, logs_are_reached}
use Rattle.wait_report.proofs.laws.a_stuck_machine_without_a_cycle_has_one_that_waits.Goals as goal

pub returns-clause-waits : goal.returns-clause-waits
returns-clause-waits c = one_waits

pub returns-clause-cycle : goal.returns-clause-cycle
returns-clause-cycle c = has_cycle

pub returns-clause-reached : goal.returns-clause-reached
returns-clause-reached c = logs_are_reached
