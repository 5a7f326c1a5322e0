use Rattle.own_logs.proofs.OwnShots.{own_shots}
use Rattle.own_logs.proofs.laws.shots_at_rest_are_those_of_logged_dumps.Goals as goal

pub returns : goal.returns
returns c = own_shots
