-- Sound worlds: the clauses and the laws hold, and every thread can finish its call with all of them kept.
use Rattle.std.specs.Prelude.{ℕ, ◌<◌, Bool, false}
use Rattle.core_world.specs.Threads.AtRest.{AtRest}
use Rattle.core_world.specs.Threads.ThreadView.{ThreadView}
use Rattle.core_world.specs.Steps.{rest_of_call}
use Rattle.core_world.specs.Trees.StepTree.{StepTree}
use Rattle.core_world.specs.World.{World}
use Rattle.core_law.specs.WholeLaw.{WhollyValid}
use Rattle.core_law.specs.Logic.{Heap, heap_of, Does}

-- these steps of a call keep every valid world valid, and after the last of them the thread is at rest
abbrev pub Finishes : Heap → Bool → StepTree (Unit {0}) → ThreadView → Type 0
Finishes heap fresh d k = Does heap fresh d k (λ fresh a l. AtRest heap.shape l)

-- Every clause and both laws hold, and every thread can finish its call: each step that is left keeps them, and after the last the thread is at rest.
pub record Sound (w : World) : Type 0 where
  pub valid : WhollyValid w
  pub goes_on : (t : ℕ) → t < w.shape.threads
      → Finishes (heap_of w) false (rest_of_call w.shape (w.known t)) (w.known t)
