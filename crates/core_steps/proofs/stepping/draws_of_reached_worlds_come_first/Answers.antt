use Rattle.core_steps.proofs.hash.FirstDraws.{next_step_keeps_first, opening_first, reached_worlds_drawn, reached_worlds_first}
use Rattle.core_steps.proofs.stepping.draws_of_reached_worlds_come_first.Goals as goal

pub returns-clause-kept : goal.returns-clause-kept
returns-clause-kept c = next_step_keeps_first

pub returns-clause-opening : goal.returns-clause-opening
returns-clause-opening c = opening_first

pub returns-clause-reached : goal.returns-clause-reached
returns-clause-reached c = reached_worlds_first

pub returns-clause-drawn : goal.returns-clause-drawn
returns-clause-drawn c = reached_worlds_drawn
