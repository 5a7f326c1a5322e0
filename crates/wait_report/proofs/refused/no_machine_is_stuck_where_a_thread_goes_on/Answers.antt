use Rattle.wait_report.proofs.StuckExamples.{goes_on}
use Rattle.wait_report.proofs.refused.no_machine_is_stuck_where_a_thread_goes_on.Goals as goal

pub returns : goal.returns
returns c = goes_on
