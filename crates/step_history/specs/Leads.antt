-- Runs of all threads, as lists of the steps that they made.
use Rattle.std.specs.Prelude.{ℕ, ◌<◌, ◌==◌, if◌then◌else◌, List, [], ◌∷◌}
use Rattle.core_world.specs.declared.plan.StepPlan.{StepPlan}
use Rattle.core_world.specs.Due.{IsNext}
use Rattle.core_world.specs.Steps.{world_after}
use Rattle.core_world.specs.Threads.ThreadView.{StepMade}
use Rattle.core_world.specs.World.{World}
use Rattle.core_calls.specs.Paths.{made}

-- From world w on, the threads make these steps, each with its thread, the newest first, up to the last world. Each is the next one of its thread.
pub data Leads (w : World) : List (ℕ × StepMade) → World → Type 0 where
  stays : Leads w [] w
  goes : (xs : List (ℕ × StepMade)) (v : World) (t : ℕ) (p : StepPlan) → Leads w xs v → t < v.shape.threads
      → IsNext v.shape v.start v.biasing (v.known t) p
      → Leads w ((t, made p (v.words p.at)) ∷ xs) (world_after p t v)

-- the steps of thread t among these, the newest first
abbrev pub steps_by : ℕ → List (ℕ × StepMade) → List StepMade
steps_by t [] = []
steps_by t (x ∷ xs) = if x.0 == t then x.1 ∷ steps_by t xs else steps_by t xs
