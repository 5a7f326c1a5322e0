-- An exit that finds a monitor has left nothing: its thread's log and own words are as they were.
use Rattle.std.proofs.Common.{◌≡◌, ℕ, ◌==◌, Bool, true, false, if◌then◌else◌, Option, Some, refl, ap}
use Rattle.mark_word.specs.declared.mark.MarkForm.{MarkForm}
use Rattle.mark_word.specs.declared.mark.MarkForm.TheVariants.{Inflating, Locked, Inflated}
use Rattle.mark_word.specs.Mark.{read_mark}
use Rattle.core_world.specs.declared.answer.StackOut.TheVariants.{Left, Monitor, Not}
use Rattle.core_world.specs.declared.answer.PendingCause.TheVariants as why
use Rattle.core_world.specs.declared.word_id.WordId.TheVariants.{Mark, Displaced}
use Rattle.core_world.specs.Due.{Runs}
use Rattle.core_world.specs.Locks.{hold_count}
use Rattle.core_world.specs.Steps.{known_after}
use Rattle.core_world.specs.Threads.ThreadView.{ThreadView, Local, local_of}
use Rattle.core_world.specs.Trees.LockSteps.{raise_stamp_plan, leave_steps, let_go_plan, clear_steps, stack_exit_at, stack_exit_record, stack_exit_steps}
use Rattle.core_world.specs.Trees.Plans.{CallContext, load, top_place, next_stamp, done_with}
use Rattle.core_world.specs.Trees.StepTree.{StepTree, done, ◌>>=◌, ask}
use Rattle.core_world.specs.Words.Shape.{Shape}
use Rattle.core_world.specs.Trees.BiasSteps.{bias_exit_steps}
use Rattle.core_world.specs.Trees.Operations.{exit_going}
use Rattle.core_world.specs.Words.Forms.{is_biased}
use Rattle.heap_table.specs.Parts.{HasMadeSteps}
use Rattle.heap_table.proofs.Resting.{IsCallOf}
use Rattle.heap_table.specs.Seen.{HeapSeen, PassSeen}
use Rattle.lock_runtime.specs.inner.Parts.{exit_unbiased}
use Rattle.lock_runtime.proofs.After.{first_then, arm_first}

module _ (s : Shape) (start : ℕ) (e : CallContext) (m : ℕ) (l : ThreadView) where
  -- after an exchange it has left, or missed
  by_swap : (b : Bool) (k : Local) (o mark found : ℕ) (x : ThreadView)
      → Runs s start (if b then (clear_steps e k o >>= (λ _. done Left)) else done (Not (why.Raced mark found))) x l (Monitor m) → ⊥
  by_swap true k o mark found x run = let is = run.1.1 in absurd (cc is)
  by_swap false k o mark found x run = let is = run.1 in absurd (cc is)

  by_mark : (f : Option MarkForm) (k : Local) (o header mark : ℕ) (x : ThreadView) → Runs s start (stack_exit_at f e k o header mark) x l (Monitor m) → l ≡ x
  by_mark (Some Inflating) k o header mark x run = let is = run.1 in absurd (cc is)
  by_mark (Some (Locked t p)) k o header mark x run =
      absurd (by_swap (run.0 == mark) k o mark run.0 (known_after s start (let_go_plan e o mark header (top_place o k.holds)) run.0 x) run.1)
  by_mark (Some (Inflated n)) k o header mark x run = run.0
  by_mark _ k o header mark x run = absurd run

  by_header : (b : Bool) (k : Local) (o header : ℕ) (x : ThreadView)
      → Runs s start (if b then (leave_steps e k o >>= (λ _. done Left))
      else (ask (load e (Mark o)) >>= (λ mark. stack_exit_at (read_mark mark) e k o header mark))) x l (Monitor m)
      → local_of l ≡ local_of x
  by_header true k o header x run = let is = run.1.1 in absurd (cc is)
  by_header false k o header x run = ap local_of (by_mark (read_mark run.0) k o header run.0 (known_after s start (load e (Mark o)) run.0 x) run.1)

  by_record : (k : Local) (o : ℕ) (x : ThreadView) → Runs s start (stack_exit_record e k o) x l (Monitor m) → local_of l ≡ local_of x
  by_record k o x run = by_header (run.0 == 0) k o run.0 (known_after s start (load e (Displaced k.thread (top_place o k.holds))) run.0 x) run.1

  by_holds : (b : Bool) (k : Local) (o : ℕ) (x : ThreadView)
      → Runs s start ((if b then (ask (raise_stamp_plan e o (next_stamp k)) >>= (λ _. done (tt {0})))
      else done (tt {0})) >>= (λ _. stack_exit_record e k o)) x l (Monitor m)
      → local_of l ≡ local_of x
  by_holds true k o x run = by_record k o (known_after s start (raise_stamp_plan e o (next_stamp k)) run.0 x) run.1
  by_holds false k o x run = by_record k o x run

pub left_nothing : (h : HeapSeen) (e : CallContext) (k : Local) (o m : ℕ) (p q : PassSeen)
    → HasMadeSteps h (stack_exit_steps e k o) p q (Monitor m) → local_of q.known ≡ local_of p.known
left_nothing h e k o m p q run = by_holds h.heap.shape h.heap.start e m q.known (hold_count o k.holds == 1) k o p.known run.ran.by

-- FIRST STEPS are of their call.
pub first_out : (e : CallContext) (k : Local) (o : ℕ) → IsCallOf e.task (stack_exit_steps e k o)
first_out e k o = first_then e.task (if hold_count o k.holds == 1 then (ask (raise_stamp_plan e o (next_stamp k)) >>= (λ _. done (tt {0}))) else done tt)
    (λ _. stack_exit_record e k o) (arm_first e.task (hold_count o k.holds == 1) _ _ refl tt) (λ _. refl)

abbrev looks : CallContext → Local → ℕ → StepTree Bool
looks e k o = ask (load e (Mark o)) >>= (λ mark. if is_biased mark then (leave_steps e k o >>= (λ _. done true)) else done false)

pub first_under_bias : (e : CallContext) (k : Local) (o : ℕ) → IsCallOf e.task (bias_exit_steps e k o)
first_under_bias e k o = first_then e.task (if hold_count o k.holds == 1 then (ask (raise_stamp_plan e o (next_stamp k)) >>= (λ _. done (tt {0}))) else done tt)
    (λ _. looks e k o) (arm_first e.task (hold_count o k.holds == 1) _ _ refl tt) (λ _. refl)

pub first_to_exit : (e : CallContext) (k : Local) (o : ℕ) → IsCallOf e.task (exit_going e k o)
first_to_exit e k o = cases (hold_count o k.holds == 1)
  where
    cases : (b : Bool) → IsCallOf e.task (((if b then (ask (raise_stamp_plan e o (next_stamp k)) >>= (λ _. done (tt {0})))
        else done tt) >>= (λ _. looks e k o)) >>= (λ biased. if biased then done_with (tt {0}) else exit_unbiased e k o))
    cases true = refl
    cases false = refl
