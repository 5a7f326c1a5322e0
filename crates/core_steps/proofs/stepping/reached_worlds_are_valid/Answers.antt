use Rattle.core_law.proofs.Lawful.{known_step_comes}
use Rattle.core_steps.proofs.ReachedWorlds.{opening_sound, reached_worlds_sound, reached_worlds_valid, reached_worlds_come}
use Rattle.core_steps.proofs.stepping.reached_worlds_are_valid.Goals as goal

pub returns-clause-opening : goal.returns-clause-opening
returns-clause-opening c = opening_sound

pub returns-clause-sound : goal.returns-clause-sound
returns-clause-sound c = reached_worlds_sound

pub returns-clause-valid : goal.returns-clause-valid
returns-clause-valid c = reached_worlds_valid

pub returns-clause-goes_on : goal.returns-clause-goes_on
returns-clause-goes_on c = reached_worlds_come

pub returns-clause-moves : goal.returns-clause-moves
returns-clause-moves c = known_step_comes
