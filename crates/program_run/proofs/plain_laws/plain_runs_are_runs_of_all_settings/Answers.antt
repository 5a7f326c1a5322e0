use Rattle.program_run.proofs.ChosenPaths.{made}
use Rattle.program_run.proofs.plain_laws.plain_runs_are_runs_of_all_settings.Goals as goal

pub returns : goal.returns
returns c = made
