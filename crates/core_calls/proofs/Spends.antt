-- THE ONE DERIVATION OF A TREE: what each of its steps is, how many there are at most, and what is said of its answer. Whatever is so of each plan by
-- itself, of their number or of the answer alone is read off it.
use Rattle.std.proofs.Common.{◌≡◌, ℕ, zero, suc, ◌+◌, ◌*◌, ◌≤◌, cond, Bool, true, false, List, ◌∷◌, length, arith, ◌-◌, nat_lt, refl}
use Rattle.core_world.specs.declared.act.Act.{Act}
use Rattle.core_world.specs.declared.act.Act.TheVariants.{Load}
use Rattle.core_world.specs.declared.heap_call.HeapCall.{HeapCall}
use Rattle.core_world.specs.declared.plan.LogEffect.TheVariants.{Quiet}
use Rattle.core_world.specs.declared.plan.StepPlan.{StepPlan}
use Rattle.core_world.specs.declared.stage.Stage.{Stage}
use Rattle.core_world.specs.declared.word_id.WordId.{WordId}
use Rattle.core_world.specs.declared.word_id.WordId.TheVariants.{Class}
use Rattle.core_world.specs.Threads.ThreadView.{StepMade}
use Rattle.core_world.specs.Trees.Plans.{CallContext, load_plan, class_steps}
use Rattle.core_world.specs.Trees.StepTree.{StepTree, done, unreachable, step, ◌>>=◌, each_from, all_from}
use Rattle.core_world.specs.Words.Shape.{Shape, class_in_shape}
use Rattle.core_calls.specs.Moments.{moment_of, CountsBy, IsPlanOf}
use Rattle.core_calls.specs.Paths.{made, Always}
use Rattle.core_calls.proofs.Paths.{Silent, IsQuietIf, IsQuiet, still_leaves}
use Rattle.core_calls.proofs.Stays.{Whatever, IsOwn, Passing, Passes, Stay}

-- Each step is a Q, there are at most n of them, and at the end as many are left as the answer asks for; R is said of the answer.
abbrev pub Spends : {A : Type 0} → (StepPlan → Type 0) → (A → ℕ) → (A → Type 0) → ℕ → StepTree A → Type 0
Spends Q rest R n (done a) = (rest a ≤ n) × R a
Spends Q rest R n unreachable = Unit {0}
Spends Q rest R zero (step p f) = ⊥
Spends Q rest R (suc n) (step p f) = Q p × ((w : ℕ) → Spends Q rest R n (f w))

pub record Spending {A : Type 0} (Q : StepPlan → Type 0) (rest : A → ℕ) (R : A → Type 0) (n : ℕ) (d : StepTree A) : Type 0 where
  pub by : Spends Q rest R n d

-- nothing is said of its answer
abbrev pub Spend : {A : Type 0} → (StepPlan → Type 0) → (A → ℕ) → ℕ → StepTree A → Type 0
Spend Q rest n d = Spending Q rest Whatever n d

module _ (Q : StepPlan → Type 0) where
  more : {A : Type 0} (rest : A → ℕ) (R : A → Type 0) (d : StepTree A) (n m : ℕ) → n ≤ m → Spends Q rest R n d → Spends Q rest R m d
  more rest R (done a) n m le h = (omega (arith, le, h.0), h.1)
  more rest R unreachable n m le h = tt
  more rest R (step p f) zero m le h = absurd h
  more rest R (step p f) (suc n) zero le h = absurd (omega (arith, le))
  more rest R (step p f) (suc n) (suc m) le h = (h.0, λ w. more rest R (f w) n m (omega (arith, le)) (h.1 w))

  then_spends : {A B : Type 0} (r : A → ℕ) (R : A → Type 0) (rest : B → ℕ) (P : B → Type 0) (d : StepTree A) (f : A → StepTree B) (n : ℕ)
      → Spends Q r R n d → ((a : A) → R a → Spends Q rest P (r a) (f a)) → Spends Q rest P n (d >>= f)
  then_spends r R rest P (done a) f n h g = more rest P (f a) (r a) n h.0 (g a h.1)
  then_spends r R rest P unreachable f n h g = tt
  then_spends r R rest P (step p x) f zero h g = absurd h
  then_spends r R rest P (step p x) f (suc n) h g = (h.0, λ w. then_spends r R rest P (x w) f n (h.1 w) g)

  leaving : {A : Type 0} (R : A → Type 0) (k : ℕ) (d : StepTree A) (n : ℕ) → Spends Q (λ _. 0) R n d → Spends Q (λ _. k) R (n + k) d
  leaving R k (done a) n h = (omega arith, h.1)
  leaving R k unreachable n h = tt
  leaving R k (step p f) zero h = absurd h
  leaving R k (step p f) (suc n) h = more (λ _. k) R (step p f) (suc (n + k)) (suc n + k) (omega arith) (h.0, λ w. leaving R k (f w) n (h.1 w))

module _ {Q : StepPlan → Type 0} where
  pub spend_more : {A : Type 0} {rest : A → ℕ} {R : A → Type 0} {d : StepTree A} {n m : ℕ} → n ≤ m → Spending Q rest R n d
      → Spending Q rest R m d
  spend_more {A} {rest} {R} {d} {n} {m} le h = record { by = more Q rest R d n m le h.by }

  pub spend_end : {A : Type 0} {rest : A → ℕ} {R : A → Type 0} {a : A} {n : ℕ} → rest a ≤ n → R a → Spending Q rest R n (done a)
  spend_end le r = record { by = (le, r) }

  pub spend_done : {A : Type 0} {rest : A → ℕ} {a : A} {n : ℕ} → rest a ≤ n → Spend Q rest n (done a)
  spend_done le = record { by = (le, tt) }

  pub spend_never : {A : Type 0} {rest : A → ℕ} {R : A → Type 0} {n : ℕ} → Spending Q rest R n unreachable
  spend_never = record { by = tt }

  pub spend_step : {A : Type 0} {rest : A → ℕ} {R : A → Type 0} {p : StepPlan} {f : ℕ → StepTree A} {n : ℕ}
      → Q p → ((w : ℕ) → Spending Q rest R n (f w)) → Spending Q rest R (suc n) (step p f)
  spend_step q h = record { by = (q, λ w. (h w).by) }

  pub spend_either : {A : Type 0} {rest : A → ℕ} {R : A → Type 0} {x y : StepTree A} {n : ℕ} (b : Bool)
      → Spending Q rest R n x → Spending Q rest R n y → Spending Q rest R n (cond b x y)
  spend_either true h g = h
  spend_either false h g = g

  -- what follows is by the answer, and by what is said of it
  pub spend_on : {A B : Type 0} {r : A → ℕ} {R : A → Type 0} {rest : B → ℕ} {P : B → Type 0} {d : StepTree A} {f : A → StepTree B} {n : ℕ}
      → Spending Q r R n d → ((a : A) → R a → Spending Q rest P (r a) (f a)) → Spending Q rest P n (d >>= f)
  spend_on {A} {B} {r} {R} {rest} {P} {d} {f} {n} h g = record { by = then_spends Q r R rest P d f n h.by (λ a x. (g a x).by) }

  pub spend_then : {A B : Type 0} {r : A → ℕ} {R : A → Type 0} {rest : B → ℕ} {P : B → Type 0} {d : StepTree A} {f : A → StepTree B} {n : ℕ}
      → Spending Q r R n d → ((a : A) → Spending Q rest P (r a) (f a)) → Spending Q rest P n (d >>= f)
  spend_then h g = spend_on h (λ a _. g a)

  -- the class of an object takes at most a step
  pub spend_class : {A : Type 0} {rest : A → ℕ} {R : A → Type 0} {f : ℕ
      → StepTree A} {n : ℕ} (e : CallContext) (stage : Stage) (s : Shape) (o : ℕ)
      → Q (load_plan e stage (Class o))
      → ((class : ℕ) → Spending Q rest R n (f class)) → Spending Q rest R (n + 1) (class_steps e stage s o >>= f)
  spend_class {A} {rest} {R} {f} {n} e stage s o q h = by_test (nat_lt o s.declared)
    where
      by_test : (b : Bool) → Spending Q rest R (n + 1) (cond b (done (class_in_shape s o)) (step (load_plan e stage (Class o)) (λ word. done (word - 1))) >>= f)
      by_test true = spend_more (omega arith) (h (class_in_shape s o))
      by_test false = spend_more (omega arith) (spend_step {n = n} q (λ word. h (word - 1)))

  -- as many steps more are left after it
  pub spend_leaving : {A : Type 0} {R : A → Type 0} {d : StepTree A} {n : ℕ} (k : ℕ) → Spending Q (λ _. 0) R n d
      → Spending Q (λ _. k) R (n + k) d
  spend_leaving {A} {R} {d} {n} k h = record { by = leaving Q R k d n h.by }

  -- first the one, then the other
  pub spend_with : {A B : Type 0} {R : A → Type 0} {rest : B → ℕ} {P : B → Type 0} {d : StepTree A} {f : A → StepTree B} {n k m : ℕ}
      → Spending Q (λ _. 0) R n d → ((a : A) → R a → Spending Q rest P k (f a)) → n + k ≤ m → Spending Q rest P m (d >>= f)
  spend_with {n = n} {k = k} h g le = spend_more le (spend_on (spend_leaving k h) g)

  pub spend_both : {A B : Type 0} {R : A → Type 0} {rest : B → ℕ} {P : B → Type 0} {d : StepTree A} {f : A → StepTree B} {n k m : ℕ}
      → Spending Q (λ _. 0) R n d → ((a : A) → Spending Q rest P k (f a)) → n + k ≤ m → Spending Q rest P m (d >>= f)
  spend_both h g le = spend_with h (λ a _. g a) le

  -- n times the same; the answers are as many
  pub spend_all : {n : ℕ} {f : ℕ → StepTree (Unit {0})} (i k : ℕ) → ((j : ℕ) → Spend Q (λ _. 0) n (f j)) → Spend Q (λ _. 0) (k * n) (all_from i k f)
  spend_all i zero h = spend_done (omega arith)
  spend_all {n} i (suc k) h = spend_both (h i) (λ _. spend_all (i + 1) k h) (omega arith)

  pub spend_each : {A : Type 0} {n : ℕ} {f : ℕ → StepTree A} (i k left : ℕ)
      → ((j : ℕ) → Spend Q (λ _. 0) n (f j)) → Spend Q (λ xs. length xs + left) (k * n + k + left) (each_from i k f)
  spend_each i zero left h = spend_done (omega arith)
  spend_each {A} {n} {f} i (suc k) left h =
      spend_both (h i) (λ x. spend_then (spend_each (i + 1) k (left + 1) h) (λ xs. spend_done (omega arith))) (omega arith)

  pub spend_list : {A : Type 0} {n : ℕ} {f : ℕ → StepTree A} (i k : ℕ) → ((j : ℕ) → Spend Q (λ _. 0) n (f j)) → Spend Q (λ _. 0) (k * n) (each_from i k f)
  spend_list i zero h = spend_done (omega arith)
  spend_list {A} {n} {f} i (suc k) h =
      spend_both {k = k * n} (h i) (λ x. spend_both {k = 0} (spend_list (i + 1) k h) (λ xs. spend_done (omega arith)) (omega arith)) (omega arith)

-- what is quiet all through leaves things as they are
quietly : {A : Type 0} (G : Type 0) (T : WordId → Act → Type 0) (e : CallContext) (rest : A → ℕ) (R : A
    → Type 0) (d : StepTree A) (n : ℕ) (ms : List StepMade)
    → Spends (IsQuietIf G T e) rest R n d → Silent e ms → Always (λ ms _. Silent e ms) ms d
quietly G T e rest R (done a) n ms h s = s
quietly G T e rest R unreachable n ms h s = tt
quietly G T e rest R (step p f) zero ms h s = absurd h
quietly G T e rest R (step p f) (suc n) ms h s = λ w.
    quietly G T e rest R (f w) n (made p w ∷ ms) (h.1 w) (still_leaves p w ms h.0.note h.0.unfinished h.0.check s)

pub spend_quietly : {A : Type 0} {G : Type 0} {T : WordId → Act → Type 0} {e : CallContext} {rest : A → ℕ} {R : A
    → Type 0} {d : StepTree A} {n : ℕ}
    (ms : List StepMade) → Spending (IsQuietIf G T e) rest R n d → Silent e ms → Always (λ ms _. Silent e ms) ms d
spend_quietly {A} {G} {T} {e} {rest} {R} {d} {n} ms h s = quietly G T e rest R d n ms h.by s

-- less may be said of each step
weakly : {A : Type 0} (Q P : StepPlan → Type 0) (rest : A → ℕ) (R : A → Type 0) (d : StepTree A) (n : ℕ) → ((p : StepPlan) → Q p → P p)
    → Spends Q rest R n d → Spends P rest R n d
weakly Q P rest R (done a) n so h = h
weakly Q P rest R unreachable n so h = tt
weakly Q P rest R (step p f) zero so h = absurd h
weakly Q P rest R (step p f) (suc n) so h = (so p h.0, λ w. weakly Q P rest R (f w) n so (h.1 w))

pub spend_so : {A : Type 0} {Q P : StepPlan → Type 0} {rest : A → ℕ} {R : A → Type 0} {d : StepTree A} {n : ℕ} → ((p : StepPlan) → Q p → P p)
    → Spending Q rest R n d → Spending P rest R n d
spend_so {A} {Q} {P} {rest} {R} {d} {n} so h = record { by = weakly Q P rest R d n so h.by }

-- each step passes a test that follows from what it is
passing : {A : Type 0} (Q : StepPlan → Type 0) (T : WordId → Act → Type 0) (rest : A → ℕ) (R : A → Type 0) (d : StepTree A) (n : ℕ)
    → ((p : StepPlan) → Q p → T p.at p.act) → Spends Q rest R n d → Passing T R d
passing Q T rest R (done a) n so h = h.1
passing Q T rest R unreachable n so h = tt
passing Q T rest R (step p f) zero so h = absurd h
passing Q T rest R (step p f) (suc n) so h = (so p h.0, λ w. passing Q T rest R (f w) n so (h.1 w))

pub spend_passes : {A : Type 0} {Q : StepPlan → Type 0} {T : WordId → Act → Type 0} {rest : A → ℕ} {R : A → Type 0} {d : StepTree A} {n : ℕ}
    → ((p : StepPlan) → Q p → T p.at p.act) → Spending Q rest R n d → Passes T R d
spend_passes {A} {Q} {T} {rest} {R} {d} {n} so h = record { by = passing Q T rest R d n so h.by }

pub spend_stays : {A : Type 0} {t : HeapCall} {rest : A → ℕ} {R : A → Type 0} {d : StepTree A} {n : ℕ} → Spending (IsOwn t) rest R n d → Stay R d
spend_stays h = spend_passes (λ p q. q.apart) h

-- a quiet part is of its call and leaves the safepoint word alone
pub spend_of : {A : Type 0} {e : CallContext} {rest : A → ℕ} {R : A → Type 0} {d : StepTree A} {n : ℕ} → Spending (IsQuiet e) rest R n d
    → Spending (IsOwn e.task) rest R n d
spend_of h = spend_so (λ p q. record { of = q.of tt; apart = q.passes }) h

-- what is said of the answer may be forgotten, and that the part leaves the safepoint word alone
any_answer : {A : Type 0} (t : HeapCall) (rest : A → ℕ) (R : A → Type 0) (d : StepTree A) (n : ℕ) → Spends (IsOwn t) rest R n d
    → Spends (IsPlanOf t) rest Whatever n d
any_answer t rest R (done a) n h = (h.0, tt)
any_answer t rest R unreachable n h = tt
any_answer t rest R (step p f) zero h = absurd h
any_answer t rest R (step p f) (suc n) h = (h.0.of, λ w. any_answer t rest R (f w) n (h.1 w))

pub spend_any : {A : Type 0} {t : HeapCall} {rest : A → ℕ} {R : A → Type 0} {d : StepTree A} {n : ℕ} → Spending (IsOwn t) rest R n d
    → Spend (IsPlanOf t) rest n d
spend_any {A} {t} {rest} {R} {d} {n} h = record { by = any_answer t rest R d n h.by }

pub quiet_step : {A : Type 0} {G : Type 0} {T : WordId → Act → Type 0} {e : CallContext} {rest : A → ℕ} {R : A → Type 0} {p : StepPlan} {f : ℕ
    → StepTree A}
    {n : ℕ} → p.note ≡ Quiet → p.after ≡ e.unfinished → p.check ≡ e.check → T p.at p.act → (G → IsPlanOf e.task p)
    → ((w : ℕ) → Spending (IsQuietIf G T e) rest R n (f w)) → Spending (IsQuietIf G T e) rest R (suc n) (step p f)
quiet_step note unfinished check passes of h =
    spend_step (record { note = note; unfinished = unfinished; check = check; passes = passes; of = of }) h

pub of_call : {t : HeapCall} {p : StepPlan} → p.task ≡ t → CountsBy (moment_of t) p.own → IsPlanOf t p
of_call call counts = record { call = call; counts = counts }

pub quiet_class : {A : Type 0} {G : Type 0} {T : WordId → Act → Type 0} {rest : A → ℕ} {R : A → Type 0} {f : ℕ → StepTree A} {n : ℕ}
    (e : CallContext) (stage : Stage) (s : Shape) (o : ℕ) → T (Class o) Load → ((class : ℕ) → Spending (IsQuietIf G T e) rest R n (f class))
    → Spending (IsQuietIf G T e) rest R (n + 1) (class_steps e stage s o >>= f)
quiet_class e stage s o passes h =
    spend_class e stage s o (record { note = refl; unfinished = refl; check = refl; passes = passes; of = λ _. of_call refl tt }) h
