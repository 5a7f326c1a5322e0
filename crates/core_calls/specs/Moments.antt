-- The moments that calls are given, and what their steps count by them.
use Rattle.std.specs.Prelude.{◌≡◌, ℕ, ◌++◌, Bool, List, Option, Some, None}
use Rattle.std.specs.List.{AllByRecursion}
use Rattle.lock_policy.specs.Policy.{is_reset}
use Rattle.core_world.specs.declared.plan.LocalEffect.{LocalEffect}
use Rattle.core_world.specs.declared.plan.LocalEffect.TheVariants.{CountVerdict}
use Rattle.core_world.specs.declared.plan.StepPlan.{StepPlan}
use Rattle.core_world.specs.declared.heap_call.HeapCall.{HeapCall}
use Rattle.core_world.specs.declared.heap_call.HeapCall.TheVariants.{Enter, Wait, Notify, NotifyAll, Hash}
use Rattle.core_world.specs.Threads.Counts.{CountedVerdict}
use Rattle.core_world.specs.Threads.ThreadView.{ThreadView, StepMade}

-- the moment that a call is given, if it takes one
abbrev pub moment_of : HeapCall → Option ℕ
moment_of (Enter o now) = Some now
moment_of (Wait o now) = Some now
moment_of (Notify o now) = Some now
moment_of (NotifyAll o now) = Some now
moment_of (Hash o now) = Some now
moment_of _ = None

-- the policy says at this moment whether the count is reset: for some count, and some moment of the last bulk operation
pub record IsDecidedAt (now : ℕ) (reset : Bool) : Type 0 where
  pub count : ℕ
  pub last : ℕ
  pub is : reset ≡ is_reset count last now

-- so it was at the moment of a call, which was given one
pub record IsDecidedBy (moment : Option ℕ) (reset : Bool) : Type 0 where
  pub now : ℕ
  pub given : moment ≡ Some now
  pub decided : IsDecidedAt now reset

-- a verdict is counted by the moment of its call
abbrev pub CountsBy : Option ℕ → LocalEffect → Type 0
CountsBy moment (CountVerdict class verdict reset) = IsDecidedBy moment reset
CountsBy moment _ = Unit {0}

-- the step is one of this call
pub record IsPlanOf (t : HeapCall) (p : StepPlan) : Type 0 where
  pub call : p.task ≡ t
  pub counts : CountsBy (moment_of t) p.own

abbrev pub IsStepOf : HeapCall → StepMade → Type 0
IsStepOf t m = IsPlanOf t m.plan

-- A thread that knew k made steps of this call, and knows l then; it counted verdicts by the moment of the call.
pub record HasCalled (t : HeapCall) (k l : ThreadView) : Type 0 where
  pub steps : List StepMade
  pub added : l.steps ≡ steps ++ k.steps
  pub of : AllByRecursion (IsStepOf t) steps
  pub counted : List CountedVerdict
  pub counts : l.counts ≡ counted ++ k.counts
  pub by : AllByRecursion (λ (v : CountedVerdict). IsDecidedBy (moment_of t) v.reset) counted
