use Rattle.own_logs.proofs.OtherWords.{no_fewer_shots, no_more_shots}
use Rattle.own_logs.proofs.refused.no_shots_beside_the_own_log.Goals as goal

pub returns-clause-fewer : goal.returns-clause-fewer
returns-clause-fewer c = no_fewer_shots

pub returns-clause-more : goal.returns-clause-more
returns-clause-more c = no_more_shots
