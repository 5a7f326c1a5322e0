-- To which objects a thread refers, in its locals, by its holds and by what it is to make next.
use Rattle.std.specs.Prelude.{◌≡◌, ℕ, ◌≤◌, true, List}
use Rattle.std.specs.List.{AllByRecursion}
use Rattle.plain_monitor.specs.declared.entry.Value.{Value}
use Rattle.plain_monitor.specs.declared.entry.Value.TheVariants.{Ref}
use Rattle.plain_monitor.specs.Made.{is_there}
use Rattle.plain_monitor.specs.Objects.{PlainObject}
use Rattle.object_program.specs.Program.{ProgramText, numbering_of}
use Rattle.plain_machine.specs.declared.monitor_call.MonitorCall.{MonitorCall}
use Rattle.plain_machine.specs.declared.monitor_call.MonitorCall.TheVariants as call
use Rattle.plain_machine.specs.declared.monitor_call.Mode.{Mode}
use Rattle.plain_machine.specs.declared.monitor_call.Mode.TheVariants.{Calling, Waiting}
use Rattle.plain_machine.specs.Thread.{ThreadState, holds_of}

-- object o is there, beside what threads have made
abbrev pub IsThere : ProgramText → List (List ℕ) → ℕ → Type 0
IsThere p made o = is_there (numbering_of p) made o ≡ true

-- where the value refers to an object, that is one of these
abbrev pub RefersTo : (ℕ → Type 0) → Value → Type 0
RefersTo These (Ref o) = These o
RefersTo These v = Unit {0}

-- what the entry of a call needs are objects of these
abbrev pub CallRefersTo : (ℕ → Type 0) → MonitorCall → Type 0
CallRefersTo These (call.Enter o) = These o
CallRefersTo These (call.Exit o) = These o
CallRefersTo These (call.Wait o) = These o
CallRefersTo These (call.Notify o) = These o
CallRefersTo These (call.NotifyAll o) = These o
CallRefersTo These (call.Get x o k) = These o
CallRefersTo These (call.Put o k v) = These o × RefersTo These v
CallRefersTo These (call.Hash x o) = These o
CallRefersTo These (call.New x c) = Unit {0}
CallRefersTo These (call.Print v) = RefersTo These v
CallRefersTo These (call.Dump k) = Unit {0}

-- the same of what a thread is about
abbrev pub ModeRefersTo : (ℕ → Type 0) → Mode → Type 0
ModeRefersTo These (Calling c) = CallRefersTo These c
ModeRefersTo These (Waiting o) = These o
ModeRefersTo These mode = Unit {0}

-- all objects to which the thread refers are of these
pub record ThreadRefersTo (These : ℕ → Type 0) (s : ThreadState) : Type 0 where
  pub locals : AllByRecursion (RefersTo These) s.locals
  pub holds : (o : ℕ) → 1 ≤ holds_of s o → These o
  pub mode : ModeRefersTo These s.mode

-- and all to which the slots of an object refer
abbrev pub SlotsReferTo : (ℕ → Type 0) → PlainObject → Type 0
SlotsReferTo These x = AllByRecursion (RefersTo These) x.slots
