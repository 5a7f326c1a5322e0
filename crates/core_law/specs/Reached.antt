-- The worlds that a heap comes to.
use Rattle.std.specs.Prelude.{ℕ, ◌<◌, Bool, false, true}
use Rattle.core_world.specs.declared.plan.StepPlan.{StepPlan}
use Rattle.core_world.specs.Due.{IsNext}
use Rattle.core_world.specs.Opening.{opening}
use Rattle.core_world.specs.Steps.{world_after}
use Rattle.core_world.specs.Trees.StepTree.{StepTree, done, unreachable, step}
use Rattle.core_world.specs.World.{World}
use Rattle.core_law.specs.Logic.{Heap}

-- from the opening world on, each step is the next one of some thread, whatever call that begins or goes on with
pub data IsReachable (heap : Heap) : World → Type 0 where
  opens : IsReachable heap (opening heap.shape heap.start heap.biasing)
  moves : (w : World) (t : ℕ) (p : StepPlan) → IsReachable heap w → t < w.shape.threads
      → IsNext w.shape w.start w.biasing (w.known t) p
      → IsReachable heap (world_after p t w)

-- what is left to do doesn't say that no valid world comes there
abbrev pub is_reachable : {A : Type 0} → StepTree A → Bool
is_reachable (done a) = true
is_reachable unreachable = false
is_reachable (step p f) = true
