use Rattle.bias_check.proofs.Exemplified.{is_program, legal, machine, runs, tellable}
use Rattle.bias_check.proofs.witnesses.a_program_of_one_thread_has_a_legal_journal.Goals as goal

pub returns-clause-program : goal.returns-clause-program
returns-clause-program c = is_program

pub returns-clause-legal : goal.returns-clause-legal
returns-clause-legal c = legal

pub returns-clause-machine : goal.returns-clause-machine
returns-clause-machine c = machine

pub returns-clause-tellable : goal.returns-clause-tellable
returns-clause-tellable c = tellable

pub returns-clause-run : goal.returns-clause-run
returns-clause-run c = runs
