-- What holds of each thread of a reached machine.
use Rattle.std.specs.Prelude.{◌≡◌, ℕ, ◌+◌, ◌<◌, ◌≤◌, true, List, length, sum, slice_index}
use Rattle.std.specs.List.{AllByRecursion}
use Rattle.plain_monitor.specs.Limits.{most_holds, most_made}
use Rattle.object_program.specs.Program.{ProgramText, has_new, objects_total, slots_of}
use Rattle.plain_machine.specs.declared.monitor_call.MonitorCall.{MonitorCall}
use Rattle.plain_machine.specs.declared.monitor_call.MonitorCall.TheVariants as call
use Rattle.plain_machine.specs.declared.monitor_call.Mode.{Mode}
use Rattle.plain_machine.specs.declared.monitor_call.Mode.TheVariants.{Calling, Waiting, Unwinding, Ended}
use Rattle.plain_machine.specs.Thread.{ThreadState}
use Rattle.plain_machine.specs.Values.{IsObject, IsValueOf}

-- an object of the program that is held, by a thread with these holds
abbrev pub IsHeld : ProgramText → List ℕ → ℕ → Type 0
IsHeld p holds o = IsObject p o × (1 ≤ slice_index holds o)

-- a call that a thread may make that has these holds and has made so many dumps and objects
abbrev pub IsCallOf : ProgramText → List ℕ → ℕ → ℕ → MonitorCall → Type 0
IsCallOf p holds dumps made (call.Enter o) = IsObject p o × (sum holds < most_holds)
IsCallOf p holds dumps made (call.Exit o) = IsHeld p holds o
IsCallOf p holds dumps made (call.Wait o) = IsHeld p holds o
IsCallOf p holds dumps made (call.Notify o) = IsHeld p holds o
IsCallOf p holds dumps made (call.NotifyAll o) = IsHeld p holds o
IsCallOf p holds dumps made (call.Get x o k) = IsHeld p holds o × (k < slots_of p o)
IsCallOf p holds dumps made (call.Put o k v) = IsHeld p holds o × (k < slots_of p o) × IsValueOf (objects_total p) v
IsCallOf p holds dumps made (call.Hash x o) = IsObject p o
IsCallOf p holds dumps made (call.New x c) = (c < length p.classes) × (made < most_made) × (has_new p.threads ≡ true)
IsCallOf p holds dumps made (call.Print v) = IsValueOf (objects_total p) v
IsCallOf p holds dumps made (call.Dump k) = (k ≡ dumps + 1) × (k ≤ 4)

-- a call is paid for; who waits does so on an object of the program; who has ended holds nothing
abbrev pub IsModeOf : ProgramText → ThreadState → Mode → Type 0
IsModeOf p s (Calling c) = (1 ≤ s.fuel) × IsCallOf p s.holds s.dumps s.made c
IsModeOf p s (Waiting o) = IsObject p o
IsModeOf p s (Unwinding e) = Unit {0}
IsModeOf p s (Ended e) = sum s.holds ≡ 0

-- what holds of a thread of the program, wherever it is: it holds objects at most 64 times, and makes at most 4 dumps
pub record IsStateOf (p : ProgramText) (s : ThreadState) : Type 0 where
  pub holds : length s.holds ≡ objects_total p
  pub few : sum s.holds ≤ most_holds
  pub dumps : s.dumps ≤ 4
  pub locals : AllByRecursion (IsValueOf (objects_total p)) s.locals

-- what holds of it after each entry
pub record IsThreadOf (p : ProgramText) (s : ThreadState) : Type 0 where
  pub state : IsStateOf p s
  pub mode : IsModeOf p s s.mode
