use Rattle.thread_frame.proofs.Starts.{starts}
use Rattle.thread_frame.proofs.laws.first_frames_are_first_states.Goals as goal

pub returns : goal.returns
returns c = starts
