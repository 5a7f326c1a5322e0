use Rattle.bias_cli.proofs.Statuses.{given_up_of, finished_of}
use Rattle.bias_cli.proofs.biasrun.Goals as goal

pub returns-clause-given_up : goal.returns-clause-given_up
returns-clause-given_up g c = given_up_of _ _ _ _ _ _ _ _ c.run_command.ensures.over

pub returns-clause-finished : goal.returns-clause-finished
returns-clause-finished g c = finished_of _ _ _ _ _ _ _ _ c.run_command.ensures.over
