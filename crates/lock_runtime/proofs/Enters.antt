-- Whole enters: how they are refused, and their first steps.
use Rattle.std.proofs.Common.{◌≡◌, ℕ, ◌==◌, Bool, true, false, if◌then◌else◌, Result, Err, refl, ap}
use Rattle.plain_monitor.specs.Limits.{most_holds}
use Rattle.plain_monitor.specs.declared.entry.Path.{Path}
use Rattle.core_world.specs.declared.answer.TooDeep.{TooDeep}
use Rattle.core_world.specs.declared.answer.Progress.{Progress}
use Rattle.core_world.specs.declared.heap_call.Operation.TheVariants as op
use Rattle.core_world.specs.declared.heap_call.HeapCall.TheVariants.{Enter}
use Rattle.core_world.specs.Threads.ThreadView.{Start}
use Rattle.core_world.specs.Threads.Stages.{Revocation}
use Rattle.core_world.specs.Trees.Calls.{steps_of}
use Rattle.core_world.specs.Trees.Operations.{goes_on_with, full_steps, enter_steps, enter_going, answer}
use Rattle.core_world.specs.Trees.Plans.{CallContext, call_context, free_place}
use Rattle.core_world.specs.Trees.StepTree.{StepTree, done, unreachable, ◌>>=◌}
use Rattle.core_world.specs.Words.Shape.{Shape}
use Rattle.heap_table.specs.Parts.{HasMadeSteps}
use Rattle.heap_table.specs.Resting.{MayCall, start_now}
use Rattle.heap_table.specs.Seen.{HeapSeen, PassSeen}
use Rattle.heap_table.proofs.Arms.{due_then, run_then, run_else}
use Rattle.heap_table.proofs.Parts.{ends}
use Rattle.heap_table.proofs.Resting.{IsCallOf, whole_due}
use Rattle.heap_table.proofs.Ruled.{not_due}
use Rattle.lock_runtime.proofs.After.{arm_first}

module _ (h : HeapSeen) (p : PassSeen) (o now : ℕ) (call : MayCall h p (Enter o now)) where
  abbrev going : StepTree (Result (Progress Path) TooDeep)
  going = enter_going h.heap.shape (call_context (Enter o now) op.Enter o) (start_now h p) (record { object = o; rebias = true; now = now }) >>= answer

  abbrev if_full : Bool → StepTree (Result (Progress Path) TooDeep)
  if_full b = if b then unreachable else done (Err (record {}))

  -- with 64 holds no enter goes on that found a place before
  pub refused : (free_place p.known.holds == most_holds) ≡ true → HasMadeSteps h (enter_steps h.heap.shape (start_now h p) o now) p p (Err (record {}))
  unfolding steps_of
  refused full =
      run_then h p (free_place p.known.holds == most_holds) (full_steps (start_now h p) o) going p (Err (record {})) full
      (cases (goes_on_with op.Enter o p.known.unfinished) refl)
    where
      cases : (b : Bool) → goes_on_with op.Enter o p.known.unfinished ≡ b → HasMadeSteps h (full_steps (start_now h p) o) p p (Err (record {}))
      cases true goes =
          let due = whole_due h p (Enter o now) call (enter_steps h.heap.shape (start_now h p) o now) refl in
          let on = due_then h p (free_place p.known.holds == most_holds) (full_steps (start_now h p) o) going (Enter o now) due full in
          absurd (not_due h p (Enter o now) (full_steps (start_now h p) o) call.rests.is_of on (ap if_full goes))
      cases false stays = run_else h p (goes_on_with op.Enter o p.known.unfinished) unreachable
          (done (Err (record {}))) p (Err (record {})) stays (ends h p (Err (record {})) call.rests.is_of)

-- its first step is one of its call
pub first_if_full : (k : Start) (o now : ℕ) → IsCallOf (Enter o now) (full_steps k o)
first_if_full k o now = arm_first (Enter o now) (goes_on_with op.Enter o k.unfinished) unreachable (done (Err (record {}))) tt tt

pub first_to_enter : (s : Shape) (e : CallContext) (k : Start) (b : Revocation) → IsCallOf e.task (enter_going s e k b)
first_to_enter s e k b = arm_first e.task k.requesting _ _ refl refl
