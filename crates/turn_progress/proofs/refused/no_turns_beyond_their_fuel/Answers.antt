use Rattle.turn_progress.proofs.Unbarred.{fewer_spend_less, more_need_fuel}
use Rattle.turn_progress.proofs.refused.no_turns_beyond_their_fuel.Goals as goal

pub returns-clause-fewer : goal.returns-clause-fewer
returns-clause-fewer c = fewer_spend_less

pub returns-clause-more : goal.returns-clause-more
returns-clause-more c = more_need_fuel
