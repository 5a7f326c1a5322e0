use Rattle.program_run.proofs.RefusedRuns.{late, made_late}
use Rattle.program_run.proofs.refused.no_run_that_leaves_out_a_stamp.Goals as goal

pub returns-clause-plain : goal.returns-clause-plain
returns-clause-plain c = late

pub returns-clause-made : goal.returns-clause-made
returns-clause-made c = made_late
