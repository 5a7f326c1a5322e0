-- The looks of a dump see all that its shot is made of.
use Rattle.plain_monitor.specs.Limits.{most_holds}
use Rattle.core_locks.proofs.Prelude.{◌≡◌, ℕ, zero, suc, ◌+◌, ◌<◌, ◌≤◌, Bool, cond, length, Option, Some, refl, sym, subst}
use Rattle.core_locks.proofs.Prelude.{arith, MarkForm, read_mark, Safepoint, Mark, Hold, Length, ThreadView, CallContext}
use Rattle.core_locks.proofs.Prelude.{load, by_equal, Biased, Locked, Inflated, OwnerForm, ByThread, ByRecord, read_owner}
use Rattle.core_locks.proofs.Prelude.{with_own, Shape, Class, ◌-◌, nat_lt, true, false, class_in_shape, Settled}
use Rattle.core_world.specs.declared.plan.LocalEffect.TheVariants as own
use Rattle.core_world.specs.Trees.LookSteps.{look_at_holds, look_at_owner, look_at_named, look_at_objects, take_shot_steps}
use Rattle.core_world.specs.Trees.Plans.{class_steps}
use Rattle.core_world.specs.Trees.StepTree.{StepTree, done, unreachable, step, ◌>>=◌, ask, all_from}
use Rattle.core_locks.specs.ShotLaws.{SawHolds, SawByOwner, SawNamed, SawAll, SawSteps, shot_looks, looks_and_shot, SawClassWord, SawClassWordIf}

-- first the one, then the other, then what comes after both
bind_assoc : {A B C : Type 0} (d : StepTree A) (g : A → StepTree B) (h : B → StepTree C) → ((d >>= g) >>= h) ≡ (d >>= (λ a. g a >>= h))
bind_assoc (done a) g h = refl
bind_assoc unreachable g h = refl
bind_assoc (step p f) g h = λ i. step p (λ n. bind_assoc (f n) g h i)

abbrev look_at_length : CallContext → ℕ → StepTree (Unit {0})
look_at_length e t = do
  _ ← ask (load e (Length t))
  done tt

abbrev look_at_hold : CallContext → ℕ → ℕ → StepTree (Unit {0})
look_at_hold e t p = do
  _ ← ask (load e (Hold t p))
  done tt

abbrev look_at : CallContext → Shape → ℕ → StepTree (Unit {0})
look_at e s o = do
  mark ← ask (load e (Mark o))
  look_at_named (read_mark mark) e s o

-- the steps that keep a shot are these looks and the load that keeps it
pub looks_first : (e : CallContext) (s : Shape) → take_shot_steps e s ≡ looks_and_shot e s
looks_first e s =
    sym (bind_assoc {A = Unit {0}} {B = Unit {0}} {C = Unit {0}} (look_at_objects e s)
    (λ x. all_from 0 s.threads (look_at_length e)) (λ x. ask (with_own own.TakeShot (load e Safepoint)) >>= (λ n. done tt)))

module _ (k : ThreadView) where
  -- what was seen of the one, and then of the other
  saw_bind : {A B : Type 0} (d : StepTree A) (g : A → StepTree B) (P : B → Type 0) → SawSteps (d >>= g) k P → SawSteps d k (λ a. SawSteps (g a) k P)
  saw_bind (done a) g P h = h
  saw_bind unreachable g P h = h
  saw_bind (step p f) g P h = (h.0, h.1, saw_bind (f h.0) g P h.2)

  saw_weaker : {A : Type 0} (d : StepTree A) (P Q : A → Type 0) → ((a : A) → P a → Q a) → SawSteps d k P → SawSteps d k Q
  saw_weaker (done a) P Q w h = w a h
  saw_weaker unreachable P Q w h = h
  saw_weaker (step p f) P Q w h = (h.0, h.1, saw_weaker (f h.0) P Q w h.2)

  -- what holds of any answer
  saw_answer : {A : Type 0} (d : StepTree A) (X : Type 0) → SawSteps d k (λ a. X) → X
  saw_answer (done a) X h = h
  saw_answer unreachable X h = absurd h
  saw_answer (step p f) X h = saw_answer (f h.0) X h.2

  abbrev Any : {A : Type 0} → A → Type 0
  Any a = Unit {0}

  -- each of the steps for n numbers from i on was seen
  saw_each : (i n : ℕ) (f : ℕ → StepTree (Unit {0})) (P : Unit {0} → Type 0)
      → SawSteps (all_from i n f) k P → (j : ℕ) → i ≤ j → j < i + n → SawSteps (f j) k (λ a. Unit {0})
  saw_each i zero f P h j low high = absurd (omega (arith, low, high))
  saw_each i (suc n) f P h j low high =
      let a = saw_bind (f i) (λ x. all_from (i + 1) n f) P h in
      by_equal j i
      (λ same. subst (λ m. SawSteps (f m) k (λ x. Unit {0})) (sym same) (saw_weaker (f i) _ _ (λ x g. tt) a))
      (λ d. saw_each (i + 1) n f P (saw_answer (f i) (SawSteps (all_from (i + 1) n f) k P) a) j (omega (arith, low, d)) (omega (arith, high)))

  saw_holds : (e : CallContext) (t : ℕ) (P : Unit {0} → Type 0) → SawSteps (look_at_holds e t) k P → SawHolds k t
  saw_holds e t P h p below = let a = saw_each 0 most_holds (look_at_hold e t) P h p (omega arith) (omega (arith, below)) in (a.0, a.1)

  saw_owner : (a : Option OwnerForm) (e : CallContext) (P : Unit {0} → Type 0) → SawSteps (look_at_owner a e) k P → SawByOwner a k
  saw_owner (Some (ByThread thread)) e P h = saw_holds e thread P h
  saw_owner (Some (ByRecord thread place)) e P h = saw_holds e thread P h
  saw_owner _ e P h = tt

  -- the class word of an object that isn't declared
  saw_class : (e : CallContext) (s : Shape) (o : ℕ) (X : ℕ → Type 0) → SawSteps (class_steps e Settled s o) k X → (c : ℕ) × SawClassWord s k o c × X c
  saw_class e s o X = by_test (nat_lt o s.declared)
    where
      by_test : (b : Bool) → SawSteps (cond b (done (class_in_shape s o)) (step (load e (Class o)) (λ word. done (word - 1)))) k X
          → (c : ℕ) × SawClassWordIf b s k o c × X c
      by_test true h = (class_in_shape s o, refl, h)
      by_test false h = (h.0 - 1, (h.0, h.1, refl), h.2)

  saw_named : (g : Option MarkForm) (e : CallContext) (s : Shape) (o : ℕ) (P : Unit {0} → Type 0) → SawSteps (look_at_named g e s o) k P → SawNamed g s k o
  saw_named (Some (Biased thread epoch age)) e s o P h =
      let a = saw_class e s o _ (saw_bind (class_steps e Settled s o) _ P h) in
      let rest = a.2 in
      (rest.0, a.0, a.1, rest.1, λ b. saw_holds e thread P (subst (λ (c : Bool). SawSteps (cond c (look_at_holds e thread) (done tt)) k P) b rest.2))
  saw_named (Some (Locked thread place)) e s o P h = saw_holds e thread P h
  saw_named (Some (Inflated monitor)) e s o P h = (h.0, h.1, saw_owner (read_owner h.0) e P h.2)
  saw_named _ e s o P h = tt

  pub looks_see : (e : CallContext) (s : Shape) (P : Unit {0} → Type 0) → SawSteps (shot_looks e s) k P → SawAll s k
  looks_see e s P h =
      let a = saw_bind (look_at_objects e s) (λ x. all_from 0 s.threads (look_at_length e)) P h in
      record {
        objects = λ o below. let b = saw_each 0 (length s.objects) (look_at e s) _ a o (omega arith) (omega (arith, below)) in
            (b.0, b.1, saw_named (read_mark b.0) e s o _ b.2);
        lengths = λ t below. let b =
            saw_each 0 s.threads (look_at_length e) P (saw_answer (look_at_objects e s) _ a) t (omega arith) (omega (arith, below)) in (b.0, b.1);
      }
