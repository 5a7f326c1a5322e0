-- Checks and dumps: the thread that a run is of, and first steps.
use Rattle.std.proofs.Common.{◌≡◌, ℕ, zero, suc, Bool, true, false, ◌&&◌, Option, refl, ap, ◌∙◌}
use Rattle.core_world.specs.declared.word_id.WordId.TheVariants.{Waiting}
use Rattle.core_world.specs.Threads.ThreadView.{ThreadView}
use Rattle.core_world.specs.Trees.LookSteps.{look_at_wait, some_live, none_goes_on, stands_still_steps}
use Rattle.core_world.specs.Trees.Plans.{CallContext, load}
use Rattle.core_world.specs.Trees.StepTree.{StepTree, done, ◌>>=◌, ask, each_from}
use Rattle.core_world.specs.Words.Shape.{Shape}
use Rattle.mark_word.specs.Wait.{read_wait}
use Rattle.core_calls.proofs.Runs.{knows}
use Rattle.core_calls.proofs.StandsKnown.{thread_along}
use Rattle.heap_table.specs.Parts.{HasMadeSteps}
use Rattle.heap_table.specs.Seen.{HeapSeen, PassSeen}
use Rattle.heap_table.proofs.Resting.{IsCallOf}
use Rattle.lock_runtime.specs.inner.LookParts.{check_going}

-- a run is of one thread
pub run_thread : {A : Type 0} (h : HeapSeen) (d : StepTree A) (p q : PassSeen) (a : A) → HasMadeSteps h d p q a → q.known.thread ≡ p.known.thread
run_thread h d p q a run =
    let f = knows run.ran in ap (λ (x : ThreadView). x.thread) f.known ∙ thread_along h.heap.shape h.heap.start f.steps p.known

-- FIRST STEPS are of their call
pub first_look : (e : CallContext) (s : Shape) → IsCallOf e.task (stands_still_steps e s)
first_look e s = cases s.threads
  where
    looks : ℕ → StepTree (Option Bool)
    looks t = ask (load e (Waiting t)) >>= (λ word. look_at_wait (read_wait word) e t)

    cases : (n : ℕ) → IsCallOf e.task (each_from 0 n looks >>= (λ threads. done (some_live threads && none_goes_on threads)))
    cases zero = tt
    cases (suc n) = refl

pub first_check : (s : Shape) (t : ℕ) (requesting : Bool) (e : CallContext) → IsCallOf e.task (check_going s t requesting e)
first_check s t true e = refl
first_check s t false e = refl
