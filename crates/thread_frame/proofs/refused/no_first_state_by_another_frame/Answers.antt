use Rattle.thread_frame.proofs.OtherFrames.{not_held, not_with_less, no_such_thread}
use Rattle.thread_frame.proofs.refused.no_first_state_by_another_frame.Goals as goal

pub returns-clause-holds : goal.returns-clause-holds
returns-clause-holds c = not_held

pub returns-clause-fuel : goal.returns-clause-fuel
returns-clause-fuel c = not_with_less

pub returns-clause-thread : goal.returns-clause-thread
returns-clause-thread c = no_such_thread
