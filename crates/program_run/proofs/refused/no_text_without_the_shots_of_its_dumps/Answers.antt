use Rattle.program_run.proofs.RefusedRuns.{other_text}
use Rattle.program_run.proofs.refused.no_text_without_the_shots_of_its_dumps.Goals as goal

pub returns : goal.returns
returns c = other_text
