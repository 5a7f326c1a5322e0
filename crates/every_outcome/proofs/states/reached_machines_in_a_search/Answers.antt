use Rattle.every_outcome.proofs.Refuelled.{reached_full, holds_told}
use Rattle.every_outcome.proofs.states.reached_machines_in_a_search.Goals as goal

pub returns-clause-full : goal.returns-clause-full
returns-clause-full c = reached_full

pub returns-clause-holds : goal.returns-clause-holds
returns-clause-holds c = holds_told
