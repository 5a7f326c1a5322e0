-- What a thread came to without a call, or what it has to make.
use Rattle.std.specs.Prelude.{◌≡◌, ℕ, Bool, true, false, Some}
use Rattle.core_world.specs.declared.answer.Progress.{Progress}
use Rattle.core_world.specs.declared.answer.Progress.TheVariants.{Done}
use Rattle.heap_table.specs.Seen.{HeapSeen, PassSeen}
use Rattle.object_program.specs.Program.{ProgramText}
use Rattle.plain_machine.specs.declared.monitor_call.MonitorCall.{MonitorCall}
use Rattle.plain_machine.specs.declared.monitor_call.Mode.TheVariants.{Calling, Waiting, Unwinding}
use Rattle.thread_calls.specs.Advances.{HasAdvanced, MayAdvance}
use Rattle.thread_calls.specs.declared.next.Reached.{Reached}
use Rattle.thread_calls.specs.declared.next.Reached.TheVariants.{Ran, Spent, Calls, Waits, Unwinds}
use Rattle.thread_frame.specs.Frames.{FrameSeen, before_call, IsAtInstruction}

-- It is at a call. It may make this as if it stood before it, and what it comes to from there, it comes to from where it was.
pub record IsAtCall (h : HeapSeen) (text : ProgramText) (fuel : ℕ) (p : PassSeen) (f g : FrameSeen) (c : MonitorCall) : Type 0 where
  pub may : MayAdvance h text fuel p (before_call g c)
  pub placed : IsAtInstruction g.place g.made (Some (Calling c))
  pub from : (q : PassSeen) (e : FrameSeen) (progress : Progress Bool) → HasAdvanced h text fuel p q (before_call g c) e progress
      → HasAdvanced h text fuel p q f e progress

-- the frame was f, and is g; the pass was left as it was
abbrev pub HasReached : HeapSeen → ProgramText → ℕ → PassSeen → FrameSeen → FrameSeen → Reached → Type 0
HasReached h text fuel p f g Ran = HasAdvanced h text fuel p p f g (Done true)
HasReached h text fuel p f g Spent = HasAdvanced h text fuel p p f g (Done false)
HasReached h text fuel p f g (Calls c) = IsAtCall h text fuel p f g c
HasReached h text fuel p f g (Waits o) = (g ≡ f) × (f.mode ≡ Some (Waiting o))
HasReached h text fuel p f g (Unwinds e) = (g ≡ f) × (f.mode ≡ Some (Unwinding e))
