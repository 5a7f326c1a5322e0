-- How the steps of the operations are written down.
use Rattle.std.specs.Prelude.{ℕ, ◌+◌, ◌-◌, ◌==◌, nat_lt, if◌then◌else◌, Bool, false, List, Option, Some, None}
use Rattle.std.specs.List.{position_or_len}
use Rattle.plain_monitor.specs.declared.entry.Entry.{Entry}
use Rattle.plain_monitor.specs.History.{last_stamp}
use Rattle.core_world.specs.declared.act.Act.{Act}
use Rattle.core_world.specs.declared.act.Act.TheVariants as act
use Rattle.core_world.specs.declared.word_id.WordId.{WordId}
use Rattle.core_world.specs.declared.word_id.WordId.TheVariants.{Class}
use Rattle.core_world.specs.declared.plan.LogEffect.TheVariants as note
use Rattle.core_world.specs.declared.plan.LocalEffect.{LocalEffect}
use Rattle.core_world.specs.declared.plan.LocalEffect.TheVariants as own
use Rattle.core_world.specs.declared.plan.StepPlan.{StepPlan}
use Rattle.core_world.specs.declared.stage.Stage.{Stage}
use Rattle.core_world.specs.declared.stage.Stage.TheVariants.{Settled}
use Rattle.core_world.specs.declared.heap_call.HeapCall.{HeapCall}
use Rattle.core_world.specs.declared.heap_call.Operation.{Operation}
use Rattle.core_world.specs.declared.heap_call.Unfinished.{Unfinished}
use Rattle.core_world.specs.declared.answer.Progress.{Progress}
use Rattle.core_world.specs.declared.answer.Progress.TheVariants.{Done, Pending}
use Rattle.core_world.specs.declared.answer.PendingCause.{PendingCause}
use Rattle.core_world.specs.Words.Forms.{hold_word}
use Rattle.core_world.specs.Threads.ThreadView.{Local}
use Rattle.core_world.specs.Locks.{hold_count}
use Rattle.core_world.specs.Words.Shape.{Shape, class_in_shape}
use Rattle.core_world.specs.Trees.StepTree.{StepTree, done, step}

-- what a part of a call makes its steps for: which call it is, and what is unfinished meanwhile
pub record CallContext : Type 0 where
  pub task : HeapCall
  pub unfinished : Option Unfinished
  pub check : Bool

-- a call that leaves its operation on o unfinished until it logs its entry
abbrev pub call_context : HeapCall → Operation → ℕ → CallContext
call_context task op o = record { task = task; unfinished = Some (record { op = op; object = o }); check = false }

-- a call that leaves nothing unfinished
abbrev pub lone_context : HeapCall → CallContext
lone_context task = record { task = task; unfinished = None; check = false }

-- a step that logs nothing and stands in the middle of nothing
abbrev pub quiet_plan : CallContext → WordId → Act → StepPlan
quiet_plan e at act =
    record {
      at = at;
      act = act;
      note = note.Quiet;
      own = own.Unchanged;
      task = e.task;
      after = e.unfinished;
      check = e.check;
      stage = Settled;
    }

-- the step after which the thread stands at this stage
abbrev pub with_stage : Stage → StepPlan → StepPlan
with_stage stage p = record p { stage = stage }

-- the step of which the thread keeps this for itself
abbrev pub with_own : LocalEffect → StepPlan → StepPlan
with_own own p = record p { own = own }

-- the step that logs this entry and ends the operation
abbrev pub logging_plan : Entry → CallContext → WordId → Act → StepPlan
logging_plan entry e at act = record (quiet_plan e at act) { note = note.Log entry; after = None }

-- a load that logs nothing, by a thread that stands at this stage; and by one that stands in the middle of nothing
abbrev pub load_plan : CallContext → Stage → WordId → StepPlan
load_plan e stage at = with_stage stage (quiet_plan e at act.Load)

abbrev pub load : CallContext → WordId → StepPlan
load e at = load_plan e Settled at

abbrev pub store : CallContext → WordId → ℕ → StepPlan
store e at word = quiet_plan e at (act.Store word)

abbrev pub swap : CallContext → WordId → ℕ → ℕ → StepPlan
swap e at expected word = quiet_plan e at (act.CompareExchange expected word)

abbrev pub done_with : {A : Type 0} → A → StepTree (Progress A)
done_with a = done (Done a)

abbrev pub pending_for : {A : Type 0} → PendingCause → StepTree (Progress A)
pending_for why = done (Pending why)

-- the lowest free place; the place of the record of o with the greatest depth
abbrev pub free_place : List ℕ → ℕ
free_place holds = position_or_len (λ h. h == 0) holds

abbrev pub top_place : ℕ → List ℕ → ℕ
top_place o holds = position_or_len (λ h. h == hold_word o (hold_count o holds)) holds

-- the stamp of the thread's next entry, if that is no Enter or Resume
abbrev pub next_stamp : Local → ℕ
next_stamp k = last_stamp k.log + 1

-- The class of an object, as a call finds it that stands at this stage: the heap's shape tells that of a declared one, and that of another is loaded.
abbrev pub class_steps : CallContext → Stage → Shape → ℕ → StepTree ℕ
class_steps e stage s o = if nat_lt o s.declared then done (class_in_shape s o) else step (load_plan e stage (Class o)) (λ word. done (word - 1))
