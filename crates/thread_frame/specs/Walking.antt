-- What a look at a local instruction makes of a frame.
use Rattle.std.specs.Prelude.{◌≡◌, ◌+◌, Option, Some, None}
use Rattle.plain_machine.specs.declared.monitor_call.Mode.{Mode}
use Rattle.plain_machine.specs.declared.monitor_call.Mode.TheVariants.{Calling, Unwinding}
use Rattle.plain_monitor.specs.declared.entry.Ending.TheVariants.{Spent as Without}
use Rattle.thread_frame.specs.declared.walk.Walked.{Walked}
use Rattle.thread_frame.specs.declared.walk.Walked.TheVariants.{Ran, Arrived, Spent}
use Rattle.thread_frame.specs.Frames.{FrameSeen, before_call, IsAtInstruction}

-- in the middle of its local instructions, or at its end
abbrev pub IsAfterLocal : Option Mode → Type 0
IsAfterLocal None = Unit {0}
IsAfterLocal (Some (Unwinding g)) = Unit {0}
IsAfterLocal (Some _) = ⊥

-- it paid for one instruction; it is at a call, and was left as it was; or it ends for want of fuel
abbrev pub HasWalked : FrameSeen → FrameSeen → Walked → Type 0
HasWalked f g Ran = (f.fuel ≡ g.fuel + 1) × IsAfterLocal g.mode
HasWalked f g (Arrived c) = (g ≡ f) × IsAtInstruction g.place g.made (Some (Calling c))
HasWalked f g Spent = (g.fuel ≡ f.fuel) × (f.fuel ≡ 0) × (g.mode ≡ Some (Unwinding Without))

-- the frame from where its thread is to go on: at a call, before that call
abbrev pub walked_to : FrameSeen → Walked → FrameSeen
walked_to g Ran = g
walked_to g (Arrived c) = before_call g c
walked_to g Spent = g
