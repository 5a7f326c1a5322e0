use Rattle.core_steps.proofs.ExactWorlds.{next_step_keeps_exact, known_step_keeps_exact, opening_exact, reached_worlds_exact}
use Rattle.core_steps.proofs.ReachedWorlds.{next_step_exact}
use Rattle.core_steps.proofs.stepping.stamps_of_reached_worlds_are_exact.Goals as goal

pub returns-clause-takes : goal.returns-clause-takes
returns-clause-takes c = next_step_exact

pub returns-clause-kept : goal.returns-clause-kept
returns-clause-kept c = next_step_keeps_exact

pub returns-clause-known : goal.returns-clause-known
returns-clause-known c = known_step_keeps_exact

pub returns-clause-opening : goal.returns-clause-opening
returns-clause-opening c = opening_exact

pub returns-clause-reached : goal.returns-clause-reached
returns-clause-reached c = reached_worlds_exact
