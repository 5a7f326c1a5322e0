use Rattle.single_thread_law.proofs.LoneExample.{program}
use Rattle.program_run.proofs.LonePlain.{made, plain, ran}
use Rattle.program_run.proofs.witnesses.a_plain_run_comes_about.Goals as goal

pub returns-clause-plain : goal.returns-clause-plain
returns-clause-plain c = plain

pub returns-clause-made : goal.returns-clause-made
returns-clause-made c = made

pub returns-clause-ran : goal.returns-clause-ran
returns-clause-ran c = ran

pub returns-clause-program : goal.returns-clause-program
returns-clause-program c = program
