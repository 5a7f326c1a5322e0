use Rattle.thread_frame.proofs.OtherFrames.{not_beside, not_another_value, not_still, not_midway}
use Rattle.thread_frame.proofs.refused.no_other_frame_moves_as_its_thread.Goals as goal

pub returns-clause-holds : goal.returns-clause-holds
returns-clause-holds c = not_beside

pub returns-clause-value : goal.returns-clause-value
returns-clause-value c = not_another_value

pub returns-clause-still : goal.returns-clause-still
returns-clause-still c = not_still

pub returns-clause-midway : goal.returns-clause-midway
returns-clause-midway c = not_midway
