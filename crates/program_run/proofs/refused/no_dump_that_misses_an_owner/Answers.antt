use Rattle.program_run.proofs.RefusedRuns.{wrong_dump}
use Rattle.program_run.proofs.refused.no_dump_that_misses_an_owner.Goals as goal

pub returns : goal.returns
returns c = wrong_dump
