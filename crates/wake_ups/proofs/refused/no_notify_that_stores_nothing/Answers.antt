use Rattle.wake_ups.proofs.Silent.{no_silent_notify, no_silent_steps}
use Rattle.wake_ups.proofs.SilentThere.{silent_there}
use Rattle.wake_ups.proofs.refused.no_notify_that_stores_nothing.Goals as goal

pub returns-clause-step : goal.returns-clause-step
returns-clause-step c = no_silent_notify

pub returns-clause-refused : goal.returns-clause-refused
returns-clause-refused c = no_silent_steps

pub returns-clause-there : goal.returns-clause-there
returns-clause-there c = silent_there
