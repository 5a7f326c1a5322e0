-- A thread knows of itself how it stands.
use Rattle.std.proofs.Common.{◌≡◌, ℕ, cond, Bool, true, false, List, [], ◌∷◌, refl, sym, ap, ◌∙◌, subst}
use Rattle.core_world.specs.declared.act.Act.{Act}
use Rattle.core_world.specs.declared.act.Act.TheVariants.{Load}
use Rattle.core_world.specs.declared.word_id.WordId.{WordId}
use Rattle.core_world.specs.declared.word_id.WordId.TheVariants.{Safepoint}
use Rattle.core_world.specs.declared.plan.StepPlan.{StepPlan}
use Rattle.core_world.specs.Words.Acts.{hits, word_after}
use Rattle.core_world.specs.Words.Shape.{Shape}
use Rattle.core_world.specs.Threads.ThreadView.{ThreadView, StepMade}
use Rattle.core_world.specs.Steps.{runs_after, asks_after, known_hit, known_miss, known_along}
use Rattle.core_world.specs.Trees.StepTree.{StepTree}
use Rattle.core_calls.specs.Paths.{FollowsTree}
use Rattle.core_calls.specs.Stands.{Stand, stand_by, stand_after_steps, FoundTrue, ThreadStandsAlong, stand_of}
use Rattle.core_calls.proofs.Runs.{on_path}

after_stands : (at : WordId) (act : Act) (word : ℕ) (k : ThreadView)
    → record { running = runs_after at act word k; asking = asks_after at act word k } ≡ stand_by k.thread at act word (stand_of k)
after_stands Safepoint Load word k = refl
after_stands Safepoint _ word k = refl
after_stands _ act word k = refl

module _ (s : Shape) (start : ℕ) where
  step_stands : (p : StepPlan) (n : ℕ) (k : ThreadView) (b : Bool)
      → stand_of (cond b (known_hit s start p n k) (known_miss s start p n k)) ≡ cond b (stand_by k.thread p.at p.act (word_after p.act n)
      (stand_of k)) (stand_of k)
  step_stands p n k true = after_stands p.at p.act (word_after p.act n) k
  step_stands p n k false = refl

  step_thread : (p : StepPlan) (n : ℕ) (k : ThreadView) (b : Bool) → (cond b (known_hit s start p n k) (known_miss s start p n k)).thread ≡ k.thread
  step_thread p n k true = refl
  step_thread p n k false = refl

  pub thread_along : (ms : List StepMade) (k : ThreadView) → (known_along s start ms k).thread ≡ k.thread
  thread_along [] k = refl
  thread_along (m ∷ ms) k = step_thread m.plan m.found (known_along s start ms k) (hits m.plan.act m.found) ∙ thread_along ms k

  pub stand_along : (ms : List StepMade) (k : ThreadView) → stand_of (known_along s start ms k) ≡ stand_after_steps k.thread ms (stand_of k)
  stand_along [] k = refl
  stand_along (m ∷ ms) k =
      step_stands m.plan m.found (known_along s start ms k) (hits m.plan.act m.found)
      ∙ (λ i. cond (hits m.plan.act m.found) (stand_by (thread_along ms k i) m.plan.at m.plan.act (word_after m.plan.act m.found)
      (stand_along ms k i)) (stand_along ms k i))

  -- so what is said of how a thread stands after a tree's steps holds of what it knows
  pub stands_known : {A : Type 0} (d : StepTree A) (k l : ThreadView) (a : A) (P : Stand → A → Type 0) (f : FollowsTree s start d k l a)
      → ThreadStandsAlong k.thread (stand_of k) d P → FoundTrue k.thread (stand_of k) f.steps → P (stand_of l) a
  stands_known {A} d k l a P f so found =
      subst (λ (b : Stand). P b a) (sym (ap stand_of f.known ∙ stand_along f.steps k))
      (on_path (λ ms (x : A). FoundTrue k.thread (stand_of k) ms → P (stand_after_steps k.thread ms (stand_of k)) x) d [] f.steps a so.by f.path found)
