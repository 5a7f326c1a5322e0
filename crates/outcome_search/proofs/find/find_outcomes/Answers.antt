use Rattle.outcome_search.specs.Outcomes.{top_fuel, top_steps}
use Rattle.outcome_search.proofs.find.find_outcomes.Goals as goal

pub returns-in-Ok-clause-counted : goal.returns-in-Ok-clause-counted
unfolding top_fuel top_steps
returns-in-Ok-clause-counted c = c.in-Ok.ensures
