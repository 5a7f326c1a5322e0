use Rattle.wait_report.proofs.StuckExamples.{forgotten}
use Rattle.wait_report.proofs.refused.no_machine_that_forgets_who_waits.Goals as goal

pub returns : goal.returns
returns c = forgotten
