use Rattle.thread_frame.proofs.OtherFrames.{is_program, stands}
use Rattle.thread_frame.proofs.witnesses.a_frame_stands_before_a_call.Goals as goal

pub returns-clause-program : goal.returns-clause-program
returns-clause-program c = is_program

pub returns-clause-moves : goal.returns-clause-moves
returns-clause-moves c = stands
