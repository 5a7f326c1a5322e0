use Rattle.wait_report.proofs.StuckExamples.{no_cycle, none_waits}
use Rattle.wait_report.proofs.refused.no_machine_is_stuck_for_the_other_reason.Goals as goal

pub returns-clause-waits : goal.returns-clause-waits
returns-clause-waits c = none_waits

pub returns-clause-cycle : goal.returns-clause-cycle
returns-clause-cycle c = no_cycle
