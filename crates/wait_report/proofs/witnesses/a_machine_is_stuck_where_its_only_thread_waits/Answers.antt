use Rattle.wait_report.proofs.StuckExamples.{under_waiting, waiting_is_program, waiting_stuck}
use Rattle.wait_report.proofs.witnesses.a_machine_is_stuck_where_its_only_thread_waits.Goals as goal

pub returns-clause-program : goal.returns-clause-program
returns-clause-program c = waiting_is_program

pub returns-clause-under : goal.returns-clause-under
returns-clause-under c = under_waiting

pub returns-clause-stuck : goal.returns-clause-stuck
returns-clause-stuck c = waiting_stuck
