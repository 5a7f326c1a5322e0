use Rattle.step_history.proofs.Listed.{reached_listed, listed_reached, own_steps}
use Rattle.step_history.proofs.reaching.reached_worlds_have_their_steps.Goals as goal

pub returns-clause-listed : goal.returns-clause-listed
returns-clause-listed c = reached_listed

pub returns-clause-reached : goal.returns-clause-reached
returns-clause-reached c = listed_reached

pub returns-clause-own : goal.returns-clause-own
returns-clause-own c = own_steps
