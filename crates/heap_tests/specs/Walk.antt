-- What the first thread of a heap of two threads and two objects knows after its first steps: it resumes, and takes and leaves the second object.
use Rattle.std.specs.Prelude.{◌≡◌, ℕ, false, List, [], ◌∷◌, None}
use Rattle.plain_monitor.specs.declared.entry.Path.TheVariants.{StackFirst}
use Rattle.core_world.specs.declared.word_id.WordId.TheVariants.{Safepoint, Mark, Displaced}
use Rattle.core_world.specs.declared.plan.StepPlan.{StepPlan}
use Rattle.core_world.specs.declared.heap_call.Operation.TheVariants as op
use Rattle.core_world.specs.declared.heap_call.HeapCall.TheVariants as task
use Rattle.core_world.specs.Opening.{first_known}
use Rattle.core_world.specs.Steps.{known_after}
use Rattle.core_world.specs.Threads.ThreadView.{ThreadView}
use Rattle.core_world.specs.Trees.LockSteps.{displace_plan, seize_plan, hold_plan, log_enter_plan, raise_stamp_plan, let_go_plan, clear_plan}
use Rattle.core_world.specs.Trees.SafepointSteps.{publish_log_plan, stop_plan}
use Rattle.core_world.specs.declared.stage.Stage.TheVariants.{Settled}
use Rattle.core_world.specs.Trees.Operations.{lone_context}
use Rattle.core_world.specs.Trees.Plans.{CallContext, call_context, load, swap}
use Rattle.heap_table.specs.Seen.{HeapSeen, PassSeen}
use Rattle.heap_tests.specs.Known.{two, resuming, Knows}

-- after these steps, newest first, each with the word that it found
abbrev pub after : List (StepPlan × ℕ) → ThreadView
after [] = first_known 0
after (x ∷ xs) = known_after two 7 x.0 x.1 (after xs)

abbrev pub entering : CallContext
entering = lone_context (task.StackEnter 1 1)

abbrev pub resumed : List (StepPlan × ℕ)
resumed = (swap resuming Safepoint 0 1, 0) ∷ (load resuming Safepoint, 0) ∷ []

abbrev pub entered : List (StepPlan × ℕ)
entered =
    (log_enter_plan entering 1 StackFirst, 0) ∷ (hold_plan entering 0 1 1 0 StackFirst, 0)
    ∷ (seize_plan entering 0 1 1 0, 1) ∷ (displace_plan entering Settled 0 0 1, 0) ∷ resumed

abbrev pub leaving : CallContext
leaving = call_context (task.StackExit 1) op.Exit 1

abbrev pub read : List (StepPlan × ℕ)
read = (load leaving (Mark 1), 4096) ∷ (load leaving (Displaced 0 0), 1) ∷ (raise_stamp_plan leaving 1 2, 0) ∷ entered

abbrev pub left : List (StepPlan × ℕ)
left = (clear_plan (record leaving { unfinished = None }) 0 0, 257) ∷ (let_go_plan leaving 1 4096 1 0, 4096) ∷ read

abbrev pub stopping : CallContext
stopping = lone_context task.Stop

abbrev pub stopped : List (StepPlan × ℕ)
stopped = (stop_plan stopping 0, 1) ∷ (publish_log_plan stopping 0 2, 0) ∷ left

-- the first thread of such a heap, without biases, after these steps
pub record IsAt (h : HeapSeen) (steps : List (StepPlan × ℕ)) (p : PassSeen) : Type 0 where
  pub knows : Knows h (after steps) p
  pub plain : h.heap.biasing ≡ false
