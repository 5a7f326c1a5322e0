use Rattle.plain_machine.specs.Machine.{code_of}
use Rattle.thread_frame.specs.Frames.{locals_of}
use Rattle.thread_frame.proofs.Moves.{moves}
use Rattle.thread_frame.proofs.laws.frames_move_as_their_threads.Goals as goal

pub returns : goal.returns
returns c p t f m holds after a e is asks fits h = moves p (code_of p t) (locals_of p t) f f.mode m a e holds after is h
