-- Which operation on the heap is the one that a thread of a program asks next.
use Rattle.std.specs.Prelude.{◌≡◌, ◌⊎◌, ℕ, Option, Some, None}
use Rattle.core_world.specs.declared.heap_call.Operation.{Operation}
use Rattle.core_world.specs.declared.heap_call.Operation.TheVariants as op
use Rattle.core_world.specs.declared.heap_call.Unfinished.{Unfinished}
use Rattle.plain_machine.specs.declared.monitor_call.MonitorCall.{MonitorCall}
use Rattle.plain_machine.specs.declared.monitor_call.MonitorCall.TheVariants as call
use Rattle.plain_machine.specs.declared.monitor_call.NextEntry.{NextEntry}
use Rattle.plain_machine.specs.declared.monitor_call.NextEntry.TheVariants.{Calls, Resumes, Leaves, Ends}

abbrev pub unfinished_on : Operation → ℕ → Option Unfinished
unfinished_on op o = Some (record { op = op; object = o })

-- what a pending call leaves unfinished; a call that makes its entry at once leaves nothing
abbrev pub unfinished_of_call : MonitorCall → Option Unfinished
unfinished_of_call (call.Enter o) = unfinished_on op.Enter o
unfinished_of_call (call.Exit o) = unfinished_on op.Exit o
unfinished_of_call (call.Wait o) = unfinished_on op.Wait o
unfinished_of_call (call.Notify o) = unfinished_on op.Notify o
unfinished_of_call (call.NotifyAll o) = unfinished_on op.NotifyAll o
unfinished_of_call (call.Hash x o) = unfinished_on op.Hash o
unfinished_of_call (call.Dump n) = unfinished_on op.Dump 0
unfinished_of_call c = None

-- A thread that waits goes on with its wait, and one that unwinds leaves its holds by exits.
abbrev pub unfinished_of : Option NextEntry → Option Unfinished
unfinished_of (Some (Calls c)) = unfinished_of_call c
unfinished_of (Some (Resumes o)) = unfinished_on op.Wait o
unfinished_of (Some (Leaves o)) = unfinished_on op.Exit o
unfinished_of (Some (Ends g)) = None
unfinished_of None = None

-- nothing is unfinished, or this operation is
abbrev pub IsAtMost : Option Unfinished → Option Unfinished → Type 0
IsAtMost u asked = (u ≡ None) ⊎ (u ≡ asked)
