-- The paths of a tree are run, and words lead along them.
use Rattle.std.proofs.Common.{◌≡◌, ◌<◌, ℕ, false, List, [], ◌∷◌, refl, ap, subst, sym}
use Rattle.core_world.specs.Due.{Runs, Ran}
use Rattle.core_world.specs.Steps.{known_along}
use Rattle.core_world.specs.Threads.ThreadView.{ThreadView, StepMade, start_of}
use Rattle.core_world.specs.Threads.ThreadView as known
use Rattle.core_world.specs.Trees.StepTree.{StepTree, done, unreachable, step, after_answer, after_answers}
use Rattle.core_world.specs.Words.Shape.{Shape}
use Rattle.core_calls.specs.Paths.{made, IsPath}
use Rattle.core_calls.specs.Stands.{Stand, FoundTrue}
use Rattle.core_calls.specs.Witnessed.{IsRunTo, IsTrulyRunTo}

module _ {A : Type 0} (s : Shape) (start : ℕ) (k : ThreadView) where
  path_runs : (d : StepTree A) (sofar ms : List StepMade) (a : A) → IsPath d sofar ms a
      → Runs s start d (known_along s start sofar k) (known_along s start ms k) a
  path_runs (done b) sofar ms a path = (ap (λ (x : List StepMade). known_along s start x k) path.0, path.1)
  path_runs unreachable sofar ms a path = absurd path
  path_runs (step p f) sofar ms a path = (path.0, path_runs (f path.0) (made p path.0 ∷ sofar) ms a path.1)

  pub path_ran : (d : StepTree A) (ms : List StepMade) (a : A) → IsPath d [] ms a → Ran s start d k (known_along s start ms k) a
  path_ran d ms a path = record { by = path_runs d [] ms a path }

-- the steps that are made where they find these words, the newest first
abbrev pub add_made : {A : Type 0} → StepTree A → ℕ → List StepMade → List StepMade
add_made (step p f) n ms = made p n ∷ ms
add_made (done b) n ms = ms
add_made unreachable n ms = ms

abbrev pub made_by : {A : Type 0} → StepTree A → List ℕ → List StepMade
made_by d [] = []
made_by d (n ∷ ns) = add_made (after_answers d ns) n (made_by d ns)

module _ {A : Type 0} (ms : List StepMade) (a : A) where
  one_back : (d : StepTree A) (n : ℕ) (sofar : List StepMade) → IsPath (after_answer d n) (add_made d n sofar) ms a → IsPath d sofar ms a
  one_back (done b) n sofar path = absurd path
  one_back unreachable n sofar path = absurd path
  one_back (step p f) n sofar path = (n, path)

  all_back : (d : StepTree A) (ns : List ℕ) → IsPath (after_answers d ns) (made_by d ns) ms a → IsPath d [] ms a
  all_back d [] path = path
  all_back d (n ∷ ns) path = all_back d ns (one_back (after_answers d ns) n (made_by d ns) path)

pub leads : {A : Type 0} (d : StepTree A) (ns : List ℕ) (a : A) → after_answers d ns ≡ done a → IsPath d [] (made_by d ns) a
leads {A} d ns a ends = all_back (made_by d ns) a d ns (subst (λ (x : StepTree A). IsPath x (made_by d ns) (made_by d ns) a) (sym ends) (refl, refl))

pub leads_ran : {A : Type 0} (s : Shape) (start : ℕ) (d : StepTree A) (ns : List ℕ) (k : ThreadView) (a : A)
    → after_answers d ns ≡ done a → (l : ThreadView) × Ran s start d k l a
leads_ran s start d ns k a ends = (_, path_ran s start k d (made_by d ns) a (leads d ns a ends))

-- so a thread that knows this makes such steps
pub ran_by : {A : Type 0} (steps : Shape → known.Start → StepTree A) (s : Shape) (before : ThreadView) (ns : List ℕ) (a : A)
    → after_answers (steps s (start_of 0 before)) ns ≡ done a → IsRunTo steps a
ran_by steps s before ns a ends =
    let found = leads_ran s 0 (steps s (start_of 0 before)) ns before a ends in
    record { shape = s; start = 0; before = before; after = found.0; ran = found.1 }

pub truly_by : {A : Type 0} (steps : Shape → known.Start → StepTree A) (stands : known.Start → Stand) (s : Shape) (from : known.Start) (ns : List ℕ)
    (a : A) → from.local.thread < 32 → from.requesting ≡ false → after_answers (steps s from) ns ≡ done a
    → FoundTrue from.local.thread (stands from) (made_by (steps s from) ns) → IsTrulyRunTo steps stands a
truly_by steps stands s from ns a within none ends true_words =
    record {
      shape = s;
      from = from;
      within = within;
      none = none;
      made = made_by (steps s from) ns;
      path = leads (steps s from) ns a ends;
      true_words = true_words;
    }
