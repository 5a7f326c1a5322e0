-- What is so of each step of a tree.
use Rattle.std.proofs.Common.{ℕ, zero, suc, ◌+◌, Bool, true, false, if◌then◌else◌}
use Rattle.core_world.specs.declared.plan.StepPlan.{StepPlan}
use Rattle.core_world.specs.Trees.StepTree.{StepTree, done, unreachable, step, ◌>>=◌, all_from, each_from}

abbrev pub EachStep : {A : Type 0} → (StepPlan → Type 0) → StepTree A → Type 0
EachStep P (done a) = Unit {0}
EachStep P unreachable = Unit {0}
EachStep P (step p f) = P p × ((n : ℕ) → EachStep P (f n))

module _ (P : StepPlan → Type 0) where
  pub each_either : {A : Type 0} (b : Bool) (x y : StepTree A) → EachStep P x → EachStep P y → EachStep P (if b then x else y)
  each_either true x y one two = one
  each_either false x y one two = two

  pub each_then : {A B : Type 0} (d : StepTree A) (g : A → StepTree B) → EachStep P d → ((a : A) → EachStep P (g a)) → EachStep P (d >>= g)
  each_then (done a) g one two = two a
  each_then unreachable g one two = tt
  each_then (step p f) g one two = (one.0, λ n. each_then (f n) g (one.1 n) two)

  pub each_of_all : (i n : ℕ) (f : ℕ → StepTree (Unit {0})) → ((j : ℕ) → EachStep P (f j)) → EachStep P (all_from i n f)
  each_of_all i zero f each = tt
  each_of_all i (suc n) f each = each_then (f i) _ (each i) (λ _. each_of_all (i + 1) n f each)

  pub each_of_list : {A : Type 0} (i n : ℕ) (f : ℕ → StepTree A) → ((j : ℕ) → EachStep P (f j)) → EachStep P (each_from i n f)
  each_of_list i zero f each = tt
  each_of_list i (suc n) f each =
      each_then (f i) _ (each i) (λ first. each_then (each_from (i + 1) n f) _ (each_of_list (i + 1) n f each) (λ others. tt))
