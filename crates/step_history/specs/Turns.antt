-- Worlds that turns lead to: at each turn a thread makes the next step of its call, or the first one of this call.
use Rattle.std.specs.Prelude.{ℕ, ◌&&◌, nat_lt, Bool, true, List, [], ◌∷◌, Option, Some, None, is_some}
use Rattle.core_world.specs.declared.plan.StepPlan.{StepPlan}
use Rattle.core_world.specs.declared.heap_call.HeapCall.{HeapCall}
use Rattle.core_world.specs.Due.{steps_due}
use Rattle.core_world.specs.Steps.{world_after}
use Rattle.core_world.specs.Trees.StepTree.{head}
use Rattle.core_world.specs.World.{World}

-- thread t's next step, where a call that it may begin is this one
abbrev pub next_of : World → ℕ → HeapCall → Option StepPlan
next_of w t task = head (steps_due w.shape w.start w.biasing (w.known t) task)

-- the world after a turn, which changes nothing where there is no step; and after these turns
abbrev pub after_turn : Option StepPlan → ℕ → World → World
after_turn None t w = w
after_turn (Some p) t w = world_after p t w

abbrev pub after_turns : List (ℕ × HeapCall) → World → World
after_turns [] w = w
after_turns (x ∷ xs) w = after_turns xs (after_turn (next_of w x.0 x.1) x.0 w)

-- at each of these turns there is a step
abbrev pub all_step : List (ℕ × HeapCall) → World → Bool
all_step [] w = true
all_step (x ∷ xs) w =
    nat_lt x.0 w.shape.threads && is_some (next_of w x.0 x.1)
    && all_step xs (after_turn (next_of w x.0 x.1) x.0 w)
