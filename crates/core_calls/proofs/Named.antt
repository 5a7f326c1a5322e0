-- Trees whose steps are all of one call: each names the call, and counts a verdict by its moment alone.
use Rattle.std.proofs.Common.{ℕ, zero, suc, List, [], ◌∷◌}
use Rattle.std.specs.List.{AllByRecursion}
use Rattle.core_world.specs.declared.heap_call.HeapCall.{HeapCall}
use Rattle.core_world.specs.Threads.ThreadView.{StepMade}
use Rattle.core_world.specs.Trees.StepTree.{StepTree, done, unreachable, step}
use Rattle.core_calls.specs.Moments.{IsPlanOf, IsStepOf}
use Rattle.core_calls.specs.Paths.{made, Always, Says}
use Rattle.core_calls.proofs.Spends.{Spends, Spending}

abbrev Names : {A : Type 0} → HeapCall → StepTree A → Type 0
Names t (done a) = Unit {0}
Names t unreachable = Unit {0}
Names t (step p f) = IsPlanOf t p × ((n : ℕ) → Names t (f n))

pub record Named {A : Type 0} (t : HeapCall) (d : StepTree A) : Type 0 where
  pub by : Names t d

-- so is a tree whose steps, so many at most, are of this call
spent : {A : Type 0} (t : HeapCall) (rest : A → ℕ) (R : A → Type 0) (d : StepTree A) (n : ℕ) → Spends (IsPlanOf t) rest R n d → Names t d
spent t rest R (done a) n h = tt
spent t rest R unreachable n h = tt
spent t rest R (step p f) zero h = absurd h
spent t rest R (step p f) (suc n) h = (h.0, λ w. spent t rest R (f w) n (h.1 w))

pub spend_named : {A : Type 0} {t : HeapCall} {rest : A → ℕ} {R : A → Type 0} {n : ℕ} {d : StepTree A} → Spending (IsPlanOf t) rest R n d
    → Named t d
spend_named {A} {t} {rest} {R} {n} {d} h = record { by = spent t rest R d n h.by }

-- SO IT IS ALONG EACH PATH
module _ {A : Type 0} (t : HeapCall) where
  abbrev pub AllOf : List StepMade → A → Type 0
  AllOf ms a = AllByRecursion (IsStepOf t) ms

  along : (d : StepTree A) (ms : List StepMade) → Names t d → AllByRecursion (IsStepOf t) ms → Always AllOf ms d
  along (done a) ms h so = so
  along unreachable ms h so = tt
  along (step p f) ms h so = λ n. along (f n) (made p n ∷ ms) (h.1 n) (h.0, so)

  pub named_says : (d : StepTree A) → Named t d → Says d AllOf
  named_says d h = record { by = along d [] h.by tt }
