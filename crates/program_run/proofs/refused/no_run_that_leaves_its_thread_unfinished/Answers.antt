use Rattle.program_run.proofs.RefusedRuns.{made_unfinished, unfinished}
use Rattle.program_run.proofs.refused.no_run_that_leaves_its_thread_unfinished.Goals as goal

pub returns-clause-plain : goal.returns-clause-plain
returns-clause-plain c = unfinished

pub returns-clause-made : goal.returns-clause-made
returns-clause-made c = made_unfinished
