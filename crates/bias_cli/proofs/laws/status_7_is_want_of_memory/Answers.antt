use Rattle.bias_cli.proofs.Statuses.{either_of, finished_another}
use Rattle.bias_cli.proofs.laws.status_7_is_want_of_memory.Goals as goal

pub returns-clause-another : goal.returns-clause-another
returns-clause-another c = finished_another

pub returns-clause-either : goal.returns-clause-either
returns-clause-either c = either_of
