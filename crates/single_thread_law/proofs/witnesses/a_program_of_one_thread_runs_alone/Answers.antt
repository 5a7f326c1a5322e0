use Rattle.single_thread_law.proofs.LoneExample.{dumps, program, run}
use Rattle.single_thread_law.proofs.witnesses.a_program_of_one_thread_runs_alone.Goals as goal

pub returns-clause-program : goal.returns-clause-program
returns-clause-program c = program

pub returns-clause-run : goal.returns-clause-run
returns-clause-run c = run

pub returns-clause-shots : goal.returns-clause-shots
returns-clause-shots c = λ start bias halted classes. dumps
