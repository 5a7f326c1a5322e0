-- Runs of one thread: the others make no step.
use Rattle.std.specs.Prelude.{◌≡◌, ℕ, ◌≤◌, true, List, [], ◌∷◌, length}
use Rattle.core_world.specs.declared.plan.StepPlan.{StepPlan}
use Rattle.core_world.specs.declared.heap_call.HeapCall.{HeapCall}
use Rattle.core_world.specs.Due.{IsNext}
use Rattle.core_world.specs.Steps.{is_idle, world_after}
use Rattle.core_world.specs.Threads.ThreadView.{StepMade}
use Rattle.core_world.specs.Trees.StepTree.{StepTree}
use Rattle.core_world.specs.World.{World}
use Rattle.core_calls.specs.Bounds.{most_steps}
use Rattle.core_calls.specs.Paths.{made, IsPath}
use Rattle.core_law.specs.Logic.{Heap}
use Rattle.core_law.specs.Reached.{IsReachable}

-- from world w on, thread t alone makes these steps, the newest first, each of them its next one, up to the last world
pub data Moves (w : World) (t : ℕ) : List StepMade → World → Type 0 where
  stays : Moves w t [] w
  goes : (ms : List StepMade) (v : World) (p : StepPlan) → Moves w t ms v
      → IsNext v.shape v.start v.biasing (v.known t) p
      → Moves w t (made p (v.words p.at) ∷ ms) (world_after p t v)

-- Thread t gets through this call, whose steps are d, from world w on:
pub record GetsThrough {A : Type 0} (heap : Heap) (w : World) (t : ℕ) (task : HeapCall) (d : StepTree A) (P : A → Type 0) : Type 0 where
  pub steps : List StepMade
  pub last : World
  pub answer : A
  -- it makes steps, and nobody else does;
  pub moves : Moves w t steps last
  -- they are the call's, up to an answer,
  pub path : IsPath d [] steps answer
  -- and at most as many as such a call has;
  pub few : length steps ≤ most_steps w.shape task
  -- the heap comes to the world after them,
  pub reached : IsReachable heap last
  -- in which the call is over;
  pub over : is_idle last.shape (last.known t) ≡ true
  -- and P holds of the answer
  pub says : P answer
