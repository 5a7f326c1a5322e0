use Rattle.wait_report.proofs.StuckExamples.{circle_is_program, circle_stuck, under_circle}
use Rattle.wait_report.proofs.witnesses.a_machine_is_stuck_in_a_circle.Goals as goal

pub returns-clause-program : goal.returns-clause-program
returns-clause-program c = circle_is_program

pub returns-clause-under : goal.returns-clause-under
returns-clause-under c = under_circle

pub returns-clause-stuck : goal.returns-clause-stuck
returns-clause-stuck c = circle_stuck
