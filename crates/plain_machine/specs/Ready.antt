-- When a thread may stand before a call or ask for something, and when it waits on an object.
use Rattle.std.specs.Prelude.{ℕ, ◌<◌, Bool, false, ◌==◌, sum}
use Rattle.object_program.specs.Limits.{most_code}
use Rattle.plain_monitor.specs.Limits.{most_holds, most_made}
use Rattle.plain_machine.specs.declared.monitor_call.MonitorCall.{MonitorCall}
use Rattle.plain_machine.specs.declared.monitor_call.MonitorCall.TheVariants as call
use Rattle.plain_machine.specs.declared.monitor_call.Mode.{Mode}
use Rattle.plain_machine.specs.declared.monitor_call.Mode.TheVariants.{Waiting, Unwinding}
use Rattle.plain_machine.specs.declared.monitor_call.NextEntry.{NextEntry}
use Rattle.plain_machine.specs.declared.monitor_call.NextEntry.TheVariants.{Calls, Leaves}
use Rattle.plain_machine.specs.Thread.{ThreadState}

-- a thread that enters has room for one more hold, and one that makes an object for one more object
abbrev pub HasRoomFor : ThreadState → MonitorCall → Type 0
HasRoomFor s (call.Enter o) = sum s.holds < most_holds
HasRoomFor s (call.New x c) = s.made < most_made
HasRoomFor s c = Unit {0}

-- a call that a thread may stand before, which is then at an instruction
abbrev pub IsReadyToCall : ThreadState → MonitorCall → Type 0
IsReadyToCall s c = (s.place < most_code) × HasRoomFor s c

-- on the way to its end
abbrev pub IsUnwinding : Mode → Type 0
IsUnwinding (Unwinding e) = Unit {0}
IsUnwinding m = ⊥

-- what a ready thread asks
abbrev pub IsReadyToAsk : ThreadState → NextEntry → Type 0
IsReadyToAsk s (Calls c) = IsReadyToCall s c
IsReadyToAsk s (Leaves o) = IsUnwinding s.mode
IsReadyToAsk s a = Unit {0}

-- a thread in this mode waits on object o, or was notified and hasn't its monitor again
abbrev pub waits_on : Mode → ℕ → Bool
waits_on (Waiting p) o = p == o
waits_on m o = false
