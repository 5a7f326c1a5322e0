use Rattle.program_run.proofs.PlainRuns.{plain_run, plain_text_is}
use Rattle.program_run.proofs.plain_laws.runs_without_paths_are_plain.Goals as goal

pub returns-clause-run : goal.returns-clause-run
returns-clause-run c = plain_run

pub returns-clause-text : goal.returns-clause-text
returns-clause-text c = plain_text_is
