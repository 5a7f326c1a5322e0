-- What each outcome of an instruction makes of a frame, and where a frame may stand for it.
use Rattle.std.specs.Prelude.{◌+◌, ◌-◌, ◌<◌, slice_set, Some}
use Rattle.object_program.specs.Limits.{most_code}
use Rattle.plain_machine.specs.declared.monitor_call.Mode.TheVariants.{Calling, Unwinding}
use Rattle.plain_machine.specs.declared.step.Next.{Next}
use Rattle.plain_machine.specs.declared.step.Next.TheVariants as next
use Rattle.thread_frame.specs.Frames.{FrameSeen, IsAtInstruction}

-- the frame after the instruction that it is at, by what this leads to
abbrev pub frame_moved : FrameSeen → Next → FrameSeen
frame_moved f (next.Sets x value) =
    record f { place = f.place + 1; locals = slice_set f.locals x value; fuel = f.fuel - 1 }
frame_moved f (next.Jumps place) = record f { place = place; fuel = f.fuel - 1 }
frame_moved f (next.Calls c) = record f { mode = Some (Calling c) }
frame_moved f (next.Stops ending) = record f { fuel = f.fuel - 1; mode = Some (Unwinding ending) }

-- a frame that sets a local or calls is at an instruction
abbrev pub IsPlacedFor : FrameSeen → Next → Type 0
IsPlacedFor f (next.Sets x value) = f.place < most_code
IsPlacedFor f (next.Calls c) = IsAtInstruction f.place f.made (Some (Calling c))
IsPlacedFor f n = Unit {0}
