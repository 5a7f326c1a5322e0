-- The next step of a thread, and runs of steps.
use Rattle.std.specs.Prelude.{◌≡◌, ◌⊎◌, ℕ, ◌&&◌, if◌then◌else◌, Bool, true, Some}
use Rattle.core_world.specs.declared.plan.StepPlan.{StepPlan}
use Rattle.core_world.specs.declared.heap_call.HeapCall.{HeapCall}
use Rattle.core_world.specs.Words.Shape.{Shape}
use Rattle.core_world.specs.Threads.Stages.{is_calm}
use Rattle.core_world.specs.Threads.ThreadView.{ThreadView, start_of}
use Rattle.core_world.specs.Trees.StepTree.{StepTree, done, unreachable, step, ◌>>=◌, head}
use Rattle.core_world.specs.Trees.Calls.{steps_of, may_begin}
use Rattle.core_world.specs.Steps.{rest_of_call, is_idle, known_after}

-- what is to do now: the rest of the call that goes on, or else the steps of this call, where it may begin, by a thread in the middle of nothing
unfoldable pub steps_due : Shape → ℕ → Bool → ThreadView → HeapCall → StepTree (Unit {0})
steps_due s start biasing k t =
    if is_idle s k
    then (if is_calm k.stage && may_begin s biasing k t then steps_of s t (start_of start k) else unreachable)
    else rest_of_call s k

-- the step is the next one of a thread that knows k: it is a function of the call, of what the thread knew when the call began, and of what
-- its steps have found
abbrev pub IsNext : Shape → ℕ → Bool → ThreadView → StepPlan → Type 0
IsNext s start biasing k p = head (steps_due s start biasing k p.task) ≡ Some p

-- These steps, and then what their answer asks for, are those of this call, which thread k may begin: it is in the middle of nothing.
pub record Begins {A : Type 0} (s : Shape) (start : ℕ) (biasing : Bool) (k : ThreadView) (t : HeapCall) (d : StepTree A)
    (after : A → StepTree (Unit {0})) : Type 0 where
  pub over : is_idle s k ≡ true
  pub may : (is_calm k.stage && may_begin s biasing k t) ≡ true
  pub is : steps_of s t (start_of start k) ≡ (d >>= after)

-- THE STEPS THAT ARE DUE, of a part of a call as of the whole: they come next in the call that goes on, or they begin one.
pub record IsDue {A : Type 0} (s : Shape) (start : ℕ) (biasing : Bool) (k : ThreadView) (t : HeapCall)
    (d : StepTree A) : Type 0 where
  pub after : A → StepTree (Unit {0})
  pub is : (rest_of_call s k ≡ (d >>= after)) ⊎ Begins s start biasing k t d after

-- from k these steps lead to l, with the answer a
abbrev pub Runs : {A : Type 0} → Shape → ℕ → StepTree A → ThreadView → ThreadView → A → Type 0
Runs s start (done b) k l a = (l ≡ k) × (a ≡ b)
Runs s start unreachable k l a = ⊥
Runs s start (step p f) k l a = (n : ℕ) × Runs s start (f n) (known_after s start p n k) l a

pub record Ran {A : Type 0} (s : Shape) (start : ℕ) (d : StepTree A) (k l : ThreadView) (a : A) : Type 0 where
  pub by : Runs s start d k l a
