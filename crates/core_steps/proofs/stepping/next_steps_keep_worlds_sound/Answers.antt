use Rattle.core_law.proofs.Lawful.{sound_comes, sound_rests}
use Rattle.core_steps.proofs.ReachedWorlds.{next_step_sound, known_step_sound, next_step_there, known_step_there}
use Rattle.core_steps.proofs.stepping.next_steps_keep_worlds_sound.Goals as goal

pub returns-clause-sound : goal.returns-clause-sound
returns-clause-sound c = next_step_sound

pub returns-clause-known : goal.returns-clause-known
returns-clause-known c = known_step_sound

pub returns-clause-there : goal.returns-clause-there
returns-clause-there c = next_step_there

pub returns-clause-known_there : goal.returns-clause-known_there
returns-clause-known_there c = known_step_there

pub returns-clause-comes : goal.returns-clause-comes
returns-clause-comes c = sound_comes

pub returns-clause-rests : goal.returns-clause-rests
returns-clause-rests c = sound_rests
