-- The state of a thread, and what its instructions do to it. A thread that isn't the owner may not wait or notify, which is the
-- IllegalMonitorStateException of the Java Language Specification 8, 17.2, nor exit, by `monitorexit` of the Java Virtual Machine
-- Specification 8. The rest of the language is this project's own.
use Rattle.std.specs.Prelude.{ℕ, ℤ, pos, ◌+ℤ◌, ◌-ℤ◌, ◌*ℤ◌, int_lt, int_le, nat_abs, ◌+◌, ◌-◌, Bool, ◌&&◌, nat_le, nat_lt}
use Rattle.std.specs.Prelude.{if◌then◌else◌, List, sum, slice_get, slice_index, slice_index_or, slice_set, Option, Some, None}
use Rattle.plain_monitor.specs.Limits.{most_holds, most_made}
use Rattle.plain_monitor.specs.declared.entry.Value.{Value}
use Rattle.plain_monitor.specs.declared.entry.Value.TheVariants.{Nil, Int, Ref}
use Rattle.plain_monitor.specs.declared.entry.Fault.{Fault}
use Rattle.plain_monitor.specs.declared.entry.Fault.TheVariants.{IllegalMonitorState, Unguarded, NotRef, NotInt}
use Rattle.plain_monitor.specs.declared.entry.Fault.TheVariants.{Range, Overflow, TooDeep, TooManyDumps, TooMany}
use Rattle.plain_monitor.specs.declared.entry.Ending.{Ending}
use Rattle.plain_monitor.specs.declared.entry.Ending.TheVariants.{Trap, Done}
use Rattle.plain_monitor.specs.Objects.{same_value}
use Rattle.plain_monitor.specs.Numbers.{is_in_range}
use Rattle.object_program.specs.declared.program.ObjectDef.{ObjectDef}
use Rattle.object_program.specs.declared.program.Code.{Code}
use Rattle.object_program.specs.declared.program.Code.TheVariants as code
use Rattle.object_program.specs.Program.{ProgramText, slots_of}
use Rattle.plain_machine.specs.declared.monitor_call.MonitorCall.{MonitorCall}
use Rattle.plain_machine.specs.declared.monitor_call.MonitorCall.TheVariants as call
use Rattle.plain_machine.specs.declared.monitor_call.Mode.{Mode}

pub record ThreadState : Type 0 where
  -- how many instructions stand before the one that it is at
  pub place : ℕ
  pub locals : List Value
  -- how many instructions it may still pay for
  pub fuel : ℕ
  -- how often it has entered each object, less its exits
  pub holds : List ℕ
  -- how many dumps it has made
  pub dumps : ℕ
  -- how many objects it has made
  pub made : ℕ
  pub mode : Mode

-- what an instruction leads to: the next instruction, a call that the thread stands before, or its end
pub data Step : Type 0 where
  Goes : ThreadState → Step
  Calls : MonitorCall → Step
  Stops : Ending → Step

abbrev pub local : ThreadState → ℕ → Value
local s x = slice_index_or s.locals x Nil

abbrev pub with_local : ThreadState → ℕ → Value → ThreadState
with_local s x v = record s { locals = slice_set s.locals x v }

-- how often the thread holds object o
abbrev pub holds_of : ThreadState → ℕ → ℕ
holds_of s o = slice_index s.holds o

-- past the instruction
abbrev pub past : ThreadState → ThreadState
past s = record s { place = s.place + 1 }

-- at the instruction with this number, from 1
abbrev pub at : ThreadState → ℕ → ThreadState
at s number = record s { place = number - 1 }

-- a fault at the instruction that the thread is at
abbrev pub faults : ThreadState → Fault → Step
faults s fault = Stops (Trap fault (s.place + 1))

-- x becomes the value
abbrev pub sets : ThreadState → ℕ → Value → Step
sets s x v = Goes (past (with_local s x v))

-- x becomes the number, where a value may be it
abbrev pub computes : ThreadState → ℕ → ℤ → Step
computes s x z = if is_in_range z then sets s x (Int z) else faults s Overflow

-- x becomes what the operation makes of two numbers
abbrev pub combines : ThreadState → ℕ → (ℤ → ℤ → ℤ) → Value → Value → Step
combines s x op (Int y) (Int z) = computes s x (op y z)
combines s x op v w = faults s NotInt

-- an instruction on the object of a reference
abbrev pub on_object : ThreadState → Value → (ℕ → Step) → Step
on_object s (Ref o) step = step o
on_object s v step = faults s NotRef

-- what only the owner may do: a thread that has no hold on the object faults
abbrev pub owner_only : ThreadState → ℕ → Fault → Step → Step
owner_only s o fault step = if nat_le 1 (holds_of s o) then step else faults s fault

-- an enter, of at most 64 holds
abbrev pub enters : ThreadState → ℕ → Step
enters s o = if nat_lt (sum s.holds) most_holds then Calls (call.Enter o) else faults s TooDeep

-- what reads or writes slot k of an object
abbrev pub on_slot : ProgramText → ThreadState → ℕ → ℕ → MonitorCall → Step
on_slot p s o k c = if nat_lt k (slots_of p o) then owner_only s o Unguarded (Calls c) else faults s Range

abbrev pub first_of : Option ObjectDef → ℕ
first_of None = 0
first_of (Some d) = d.first

abbrev pub size_of : Option ObjectDef → ℕ
size_of None = 0
size_of (Some d) = d.size

abbrev pub is_element : ℤ → ℕ → Bool
is_element i size = int_le (pos 0) i && int_lt i (pos size)

-- element i of a declaration of objects
abbrev pub element : ThreadState → ℕ → Option ObjectDef → Value → Step
element s x d (Int i) = if is_element i (size_of d) then sets s x (Ref (first_of d + nat_abs i)) else faults s Range
element s x d v = faults s NotInt

abbrev pub jumps_where : Bool → ThreadState → ℕ → Step
jumps_where holds s l = Goes (if holds then at s l else past s)

abbrev pub jumps_below : ThreadState → Value → Value → ℕ → Step
jumps_below s (Int y) (Int z) l = jumps_where (int_lt y z) s l
jumps_below s v w l = faults s NotInt

abbrev pub dumps_next : ThreadState → Step
dumps_next s = if nat_lt s.dumps 4 then Calls (call.Dump (s.dumps + 1)) else faults s TooManyDumps

-- a new object, of at most 1,024 that a thread may make
abbrev pub makes_next : ThreadState → ℕ → ℕ → Step
makes_next s x c = if nat_lt s.made most_made then Calls (call.New x c) else faults s TooMany

-- what the instruction does to a thread that is at it; its faults are tried in the order of the tests
abbrev pub step_of : ProgramText → ThreadState → Code → Step
step_of p s (code.Set x v) = sets s x (Int v)
step_of p s (code.Add x y z) = combines s x (λ a b. a +ℤ b) (local s y) (local s z)
step_of p s (code.Sub x y z) = combines s x (λ a b. a -ℤ b) (local s y) (local s z)
step_of p s (code.Mul x y z) = combines s x (λ a b. a *ℤ b) (local s y) (local s z)
step_of p s (code.Ref x n) = sets s x (Ref (first_of (slice_get p.objects n)))
step_of p s (code.Elem x n i) = element s x (slice_get p.objects n) (local s i)
step_of p s (code.Enter x) = on_object s (local s x) (enters s)
step_of p s (code.Exit x) = on_object s (local s x) (λ o. owner_only s o IllegalMonitorState (Calls (call.Exit o)))
step_of p s (code.Wait x) = on_object s (local s x) (λ o. owner_only s o IllegalMonitorState (Calls (call.Wait o)))
step_of p s (code.Notify x) = on_object s (local s x) (λ o. owner_only s o IllegalMonitorState (Calls (call.Notify o)))
step_of p s (code.NotifyAll x) =
    on_object s (local s x) (λ o. owner_only s o IllegalMonitorState (Calls (call.NotifyAll o)))
step_of p s (code.Get x o k) = on_object s (local s o) (λ r. on_slot p s r k (call.Get x r k))
step_of p s (code.Put o k x) = on_object s (local s o) (λ r. on_slot p s r k (call.Put r k (local s x)))
step_of p s (code.Hash x o) = on_object s (local s o) (λ r. Calls (call.Hash x r))
step_of p s (code.New x c) = makes_next s x c
step_of p s (code.Print x) = Calls (call.Print (local s x))
step_of p s (code.Jump l) = Goes (at s l)
step_of p s (code.Jlt x y l) = jumps_below s (local s x) (local s y) l
step_of p s (code.Jeq x y l) = jumps_where (same_value (local s x) (local s y)) s l
step_of p s code.Dump = dumps_next s
step_of p s code.End = Stops Done
