-- The rules of the logic that speak of trees alone.
use Rattle.std.proofs.Common.{◌≡◌, ℕ, ◌==◌, Bool, true, false, cond, refl, sym, subst, eqb-true, eq-eqb}
use Rattle.core_world.specs.declared.act.Act.{Act}
use Rattle.core_world.specs.declared.act.Act.TheVariants.{CompareExchange}
use Rattle.core_world.specs.declared.plan.StepPlan.{StepPlan}
use Rattle.core_world.specs.Words.Acts.{hits}
use Rattle.core_world.specs.Threads.ThreadView.{ThreadView}
use Rattle.core_world.specs.Trees.StepTree.{StepTree, done, unreachable, step, ◌>>=◌}
use Rattle.core_world.specs.Steps.{is_idle, known_hit, known_miss, known_after}
use Rattle.core_law.specs.Logic.{Heap, Keeps, Was, Doing, Does}

module _ (heap : Heap) where
  -- an answer, and a step
  pub answers : {A : Type 0} (fresh : Bool) (a : A) (k : ThreadView) (Q : Bool → A → ThreadView → Type 0) → Q fresh a k → Does heap fresh (done a) k Q
  answers fresh a k Q h = record { by = h }

  pub steps : {A : Type 0} (fresh : Bool) (p : StepPlan) (f : ℕ → StepTree A) (k : ThreadView) (Q : Bool → A → ThreadView → Type 0)
      → (is_idle heap.shape k ≡ fresh → Keeps heap p k)
      → ((n : ℕ) → is_idle heap.shape k ≡ fresh → Was heap p k n → Does heap false (f n) (known_after heap.shape heap.start p n k) Q)
      → Does heap fresh (step p f) k Q
  steps fresh p f k Q g h = record { by = (g, λ n e was. (h n e was).by) }

  -- what is known of whether the call has begun may be used before its next step
  pub once_idle : {A : Type 0} (fresh : Bool) (p : StepPlan) (f : ℕ → StepTree A) (k : ThreadView) (Q : Bool → A → ThreadView → Type 0)
      → (is_idle heap.shape k ≡ fresh → Does heap fresh (step p f) k Q)
      → Does heap fresh (step p f) k Q
  once_idle fresh p f k Q h = record { by = (λ e. (h e).by.0 e, λ n e was. (h e).by.1 n e was) }

  -- consequence
  weaker : {A : Type 0} (fresh : Bool) (d : StepTree A) (k : ThreadView) (Q R : Bool → A → ThreadView → Type 0)
      → ((b : Bool) (a : A) (l : ThreadView) → Q b a l → R b a l)
      → Doing heap fresh d k Q → Doing heap fresh d k R
  weaker fresh (done a) k Q R f h = f fresh a k h
  weaker fresh unreachable k Q R f h = h
  weaker fresh (step p g) k Q R f h = (h.0, λ n e was. weaker false (g n) (known_after heap.shape heap.start p n k) Q R f (h.1 n e was))

  pub follows : {A : Type 0} (fresh : Bool) (d : StepTree A) (k : ThreadView) (Q R : Bool → A → ThreadView → Type 0) → Does heap fresh d k Q
      → ((b : Bool) (a : A) (l : ThreadView) → Q b a l → R b a l) → Does heap fresh d k R
  follows fresh d k Q R h f = record { by = weaker fresh d k Q R f h.by }

  -- first the one, then what its answer asks for
  joined : {A B : Type 0} (fresh : Bool) (d : StepTree A) (g : A → StepTree B) (k : ThreadView) (R : Bool → B → ThreadView → Type 0)
      → Doing heap fresh d k (λ b a l. Does heap b (g a) l R) → Doing heap fresh (d >>= g) k R
  joined fresh (done a) g k R h = h.by
  joined fresh unreachable g k R h = h
  joined fresh (step p f) g k R h = (h.0, λ n e was. joined false (f n) g (known_after heap.shape heap.start p n k) R (h.1 n e was))

  pub binds : {A B : Type 0} (fresh : Bool) (d : StepTree A) (g : A → StepTree B) (k : ThreadView) (R : Bool → B → ThreadView → Type 0)
      → Does heap fresh d k (λ b a l. Does heap b (g a) l R) → Does heap fresh (d >>= g) k R
  binds fresh d g k R h = record { by = joined fresh d g k R h.by }

  -- a choice
  pub chooses : {A : Type 0} (fresh b : Bool) (x y : StepTree A) (k : ThreadView) (Q : Bool → A → ThreadView → Type 0) → (b ≡ true → Does heap fresh x k Q)
      → (b ≡ false → Does heap fresh y k Q) → Does heap fresh (cond b x y) k Q
  chooses fresh true x y k Q f g = f refl
  chooses fresh false x y k Q f g = g refl

  pub chooses_then : {A B : Type 0} (fresh b : Bool) (x y : StepTree A) (g : A → StepTree B) (k : ThreadView) (Q : Bool → B → ThreadView → Type 0)
      → (b ≡ true → Does heap fresh (x >>= g) k Q) → (b ≡ false → Does heap fresh (y >>= g) k Q) → Does heap fresh (cond b x y >>= g) k Q
  chooses_then fresh true x y g k Q f h = f refl
  chooses_then fresh false x y g k Q f h = h refl

  -- a step that hits, since it finds what it expects; and one that hits whatever it finds
  pub finding : {A : Type 0} (fresh : Bool) (p : StepPlan) (f : ℕ → StepTree A) (k : ThreadView) (Q : Bool → A → ThreadView → Type 0)
      → ((n : ℕ) → Was heap p k n → hits p.act n ≡ true)
      → (is_idle heap.shape k ≡ fresh → Keeps heap p k)
      → ((n : ℕ) → is_idle heap.shape k ≡ fresh → Was heap p k n → Does heap false (f n) (known_hit heap.shape heap.start p n k) Q)
      → Does heap fresh (step p f) k Q
  finding fresh p f k Q hit g h = steps fresh p f k Q g (λ n e was.
      subst (λ (b : Bool). Does heap false (f n) (cond b (known_hit heap.shape heap.start p n k) (known_miss heap.shape heap.start p n k)) Q)
      (sym (hit n was)) (h n e was))

  pub hitting : {A : Type 0} (fresh : Bool) (p : StepPlan) (f : ℕ → StepTree A) (k : ThreadView) (Q : Bool → A → ThreadView → Type 0)
      → ((n : ℕ) → hits p.act n ≡ true)
      → (is_idle heap.shape k ≡ fresh → Keeps heap p k)
      → ((n : ℕ) → is_idle heap.shape k ≡ fresh → Was heap p k n → Does heap false (f n) (known_hit heap.shape heap.start p n k) Q)
      → Does heap fresh (step p f) k Q
  hitting fresh p f k Q hit g h = finding fresh p f k Q (λ n was. hit n) g h

  -- an exchange, and what follows where it finds the word that it expects, and where not
  pub exchanging : {A : Type 0} (fresh : Bool) (p : StepPlan) (expected word : ℕ) (f : ℕ → StepTree A) (k : ThreadView) (Q : Bool → A → ThreadView → Type 0)
      → p.act ≡ CompareExchange expected word → (is_idle heap.shape k ≡ fresh → Keeps heap p k)
      → ((n : ℕ) → is_idle heap.shape k ≡ fresh → Was heap p k n → n ≡ expected → Does heap false (f n) (known_hit heap.shape heap.start p n k) Q)
      → ((n : ℕ) → is_idle heap.shape k ≡ fresh → Was heap p k n → (n == expected) ≡ false → Does heap false (f n) (known_miss heap.shape heap.start p n k) Q)
      → Does heap fresh (step p f) k Q
  exchanging {A} fresh p expected word f k Q act g hit miss = steps fresh p f k Q g (λ n e was.
      subst (λ (z : Act). Does heap false (f n) (cond (hits z n) (known_hit heap.shape heap.start p n k) (known_miss heap.shape heap.start p n k)) Q)
      (sym act) (cases n e was (n == expected) refl))
    where
      cases : (n : ℕ) → is_idle heap.shape k ≡ fresh → Was heap p k n → (b : Bool) → (n == expected) ≡ b
          → Does heap false (f n) (cond b (known_hit heap.shape heap.start p n k) (known_miss heap.shape heap.start p n k)) Q
      cases n e was true h = hit n e was (eqb-true n expected h)
      cases n e was false h = miss n e was h

  -- the same where a test of what was found tells the two
  pub swapping : {A : Type 0} (fresh : Bool) (p : StepPlan) (expected word : ℕ) (x y : ℕ → StepTree A) (k : ThreadView) (Q : Bool → A → ThreadView → Type 0)
      → p.act ≡ CompareExchange expected word → (is_idle heap.shape k ≡ fresh → Keeps heap p k)
      → ((n : ℕ) → is_idle heap.shape k ≡ fresh → Was heap p k n → n ≡ expected → Does heap false (x n) (known_hit heap.shape heap.start p n k) Q)
      → ((n : ℕ) → is_idle heap.shape k ≡ fresh → Was heap p k n → (n == expected) ≡ false → Does heap false (y n) (known_miss heap.shape heap.start p n k) Q)
      → Does heap fresh (step p (λ n. cond (n == expected) (x n) (y n))) k Q
  swapping fresh p expected word x y k Q act g hit miss = exchanging fresh p expected word (λ n. cond (n == expected) (x n) (y n)) k Q act g
      (λ n e was h. subst (λ (b : Bool). Does heap false (cond b (x n) (y n)) (known_hit heap.shape heap.start p n k) Q)
      (sym (eq-eqb n expected h)) (hit n e was h))
      (λ n e was h. subst (λ (b : Bool). Does heap false (cond b (x n) (y n)) (known_miss heap.shape heap.start p n k) Q) (sym h) (miss n e was h))
