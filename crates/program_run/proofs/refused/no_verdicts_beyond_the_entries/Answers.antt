use Rattle.program_run.proofs.RefusedRuns.{more_verdicts, no_run_revoked_so_early, no_run_so_early, too_early}
use Rattle.program_run.proofs.refused.no_verdicts_beyond_the_entries.Goals as goal

pub returns-clause-verdicts : goal.returns-clause-verdicts
returns-clause-verdicts c = more_verdicts

pub returns-clause-bulk : goal.returns-clause-bulk
returns-clause-bulk c = too_early

pub returns-clause-late : goal.returns-clause-late
returns-clause-late c = no_run_revoked_so_early

pub returns-clause-run : goal.returns-clause-run
returns-clause-run c = no_run_so_early
