-- Why a call can't begin: the first reason, in the order in which they are tried.
use Rattle.std.specs.Prelude.{ℕ, ◌==◌, ◌&&◌, ◌||◌, not, nat_lt, if◌then◌else◌, Bool, true, false, Option, Some, None, is_some}
use Rattle.core_world.specs.Threads.ThreadView.{ThreadView}
use Rattle.core_world.specs.Threads.References.{is_value_over}
use Rattle.core_world.specs.Trees.Operations.{goes_on_with}
use Rattle.core_world.specs.Words.Forms.{says_ended}
use Rattle.core_world.specs.Words.Shape.{Shape, slots_of}
use Rattle.core_world.specs.declared.heap_call.Operation.{Operation}
use Rattle.core_world.specs.declared.heap_call.Operation.TheVariants as op
use Rattle.core_world.specs.declared.heap_call.HeapCall.{HeapCall}
use Rattle.core_world.specs.declared.heap_call.HeapCall.TheVariants as task
use Rattle.core_world.specs.declared.heap_call.Unfinished.{Unfinished}
use Rattle.heap_table.specs.Kept.{all_holds}
use Rattle.plain_monitor.specs.declared.entry.Value.{Value}
use Rattle.lock_runtime_c.specs.declared.outcome.Misuse.{Misuse}
use Rattle.lock_runtime_c.specs.declared.outcome.Misuse.TheVariants as misuse

-- the first of two reasons, where there is one
abbrev pub or_else : {A : Type 0} → Option A → Option A → Option A
or_else None other = other
or_else (Some a) other = Some a

abbrev pub if_so : Bool → Misuse → Option Misuse
if_so true why = Some why
if_so false why = None

-- the operation that the call makes, and its object
abbrev pub operation : HeapCall → Option (Operation × ℕ)
operation (task.Enter o now) = Some (op.Enter, o)
operation (task.Exit o) = Some (op.Exit, o)
operation (task.Wait o now) = Some (op.Wait, o)
operation (task.Notify o now) = Some (op.Notify, o)
operation (task.NotifyAll o now) = Some (op.NotifyAll, o)
operation (task.Hash o now) = Some (op.Hash, o)
operation task.Dump = Some (op.Dump, 0)
operation _ = None

-- it goes on with what is unfinished
abbrev pub goes_on : Option (Operation × ℕ) → Option Unfinished → Bool
goes_on None left = false
goes_on (Some made) left = goes_on_with made.0 made.1 left

-- another operation is unfinished
abbrev pub other_operation : Option (Operation × ℕ) → Option Unfinished → Option Misuse
other_operation made None = None
other_operation made (Some u) = if goes_on made (Some u) then None else Some (misuse.IsUnfinished u.op)

-- how the thread stands, for an operation: it runs, or asks for a safepoint for the one that goes on
abbrev pub of_standing : ThreadView → Option (Operation × ℕ) → Option Misuse
of_standing k made =
    or_else (if_so (says_ended k.wait) misuse.Ended)
    (or_else (if_so k.checking misuse.CheckIsUnfinished)
    (or_else (other_operation made k.unfinished)
    (if_so (not (k.running || (k.requesting && is_some k.unfinished))) misuse.IsStopped)))

-- what is wrong with its operands
abbrev pub of_object : Shape → ℕ → Option Misuse
of_object s o = if_so (not (nat_lt o s.declared)) misuse.NoObject

abbrev pub of_slot : Shape → ℕ → ℕ → Option Misuse
of_slot s o slot = or_else (of_object s o) (if_so (not (nat_lt slot (slots_of s o))) misuse.NoSlot)

abbrev pub of_value : Shape → Value → Option Misuse
of_value s value = if_so (not (is_value_over (λ o. nat_lt o s.declared) value)) misuse.NoValue

-- a thread ends without holds
abbrev pub of_holds : ThreadView → Option Misuse
of_holds k = if_so (not (all_holds k.holds == 0)) misuse.IsHolding

abbrev pub of_operands : Shape → ThreadView → HeapCall → Option Misuse
of_operands s k (task.Enter o now) = of_object s o
of_operands s k (task.Exit o) = of_object s o
of_operands s k (task.Wait o now) = of_object s o
of_operands s k (task.Notify o now) = of_object s o
of_operands s k (task.NotifyAll o now) = of_object s o
of_operands s k (task.Hash o now) = of_object s o
of_operands s k (task.Get o slot) = of_slot s o slot
of_operands s k (task.Put o slot value) = or_else (of_slot s o slot) (of_value s value)
of_operands s k (task.Print value) = of_value s value
of_operands s k (task.Finish ending) = of_holds k
of_operands s k _ = None

-- a poll and a stop are for a thread that runs, and a resume for one that is stopped
abbrev pub of_running : ThreadView → Option Misuse
of_running k = if_so (not k.running) (if k.requesting then misuse.IsAsking else misuse.IsStopped)

abbrev pub of_stopped : ThreadView → Option Misuse
of_stopped k = or_else (if_so k.requesting misuse.IsAsking) (if_so k.running misuse.IsRunning)

-- a check is for one that runs, or asks for a safepoint for a check
abbrev pub other_asked : Bool → Option Unfinished → Misuse
other_asked true (Some u) = misuse.IsUnfinished u.op
other_asked _ _ = misuse.IsStopped

abbrev pub of_check : ThreadView → Option Misuse
of_check k =
    or_else (if_so (says_ended k.wait) misuse.Ended)
    (if_so (not (if k.requesting then k.checking else k.running)) (other_asked k.requesting k.unfinished))

-- The calls for C are these.
abbrev pub first_reason : Shape → ThreadView → HeapCall → Option Misuse
first_reason s k task.Poll = of_running k
first_reason s k task.Stop = of_running k
first_reason s k task.Resume = of_stopped k
first_reason s k task.Check = of_check k
first_reason s k (task.Create class) = Some misuse.OtherKind
first_reason s k (task.StackEnter o mark) = Some misuse.OtherKind
first_reason s k (task.StackExit o) = Some misuse.OtherKind
first_reason s k task.Request = Some misuse.OtherKind
first_reason s k task.Reached = Some misuse.OtherKind
first_reason s k task.Release = Some misuse.OtherKind
first_reason s k t = or_else (of_standing k (operation t)) (of_operands s k t)
