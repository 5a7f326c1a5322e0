-- The steps of a part of a call, one after the other: each can be made where it is due, and then the rest is due.
use Rattle.std.proofs.Common.{◌≡◌, ℕ, Bool, true, false, cond, inl, inr, refl, sym, ap, ◌∙◌, subst}
use Rattle.core_world.specs.declared.plan.LocalEffect.{LocalEffect}
use Rattle.core_world.specs.declared.plan.LocalEffect.TheVariants as own
use Rattle.core_world.specs.declared.plan.StepPlan.{StepPlan}
use Rattle.core_world.specs.declared.heap_call.HeapCall.{HeapCall}
use Rattle.core_world.specs.Due.{IsDue, Runs}
use Rattle.core_world.specs.Steps.{known_after, rest_of_call, is_idle}
use Rattle.core_world.specs.Threads.ThreadView.{ThreadView, start_of}
use Rattle.core_world.specs.Trees.Calls.{steps_of}
use Rattle.core_world.specs.Trees.StepTree.{StepTree, done, unreachable, step, ◌>>=◌, after_answer, is_over}
use Rattle.core_world.specs.Words.Shape.{Shape}
use Rattle.core_world.proofs.CallRests.{begun_rest, gone_rest, next_due, then_due, ran_due}
use Rattle.core_law.specs.Reached.{is_reachable}
use Rattle.heap_table.specs.Drafts.{IsDrafted, IsLeft}
use Rattle.heap_table.specs.Kept.{LogHasRoom}
use Rattle.heap_table.specs.Parts.{IsDueOn, HasMadeSteps}
use Rattle.heap_table.specs.inner.Parts.{is_shot}
use Rattle.heap_table.specs.Seen.{HeapSeen, PassSeen, IsOf}
use Rattle.heap_table.specs.Stepping.{CanStep, HasStepped}

undrafted : (o : LocalEffect) (s : Shape) (k : ThreadView) (p : PassSeen) → is_shot o ≡ false → IsDrafted o s k p.cut p.cells
undrafted own.TakeShot s k p e = absurd (cc e)
undrafted own.Unchanged s k p e = tt
undrafted own.Position s k p e = tt
undrafted own.Claim s k p e = tt
undrafted (own.Detach m) s k p e = tt
undrafted own.Enqueue s k p e = tt
undrafted own.DropClaim s k p e = tt
undrafted own.SaveRecursions s k p e = tt
undrafted (own.CountVerdict c v r) s k p e = tt

draft_stays : (o : LocalEffect) (p q : PassSeen) → is_shot o ≡ false → IsLeft o p.cut p.cells q.cut q.cells → (q.cut ≡ p.cut) × (q.cells ≡ p.cells)
draft_stays own.TakeShot p q e h = absurd (cc e)
draft_stays own.Unchanged p q e h = h
draft_stays own.Position p q e h = h
draft_stays own.Claim p q e h = h
draft_stays (own.Detach m) p q e h = h
draft_stays own.Enqueue p q e h = h
draft_stays own.DropClaim p q e h = h
draft_stays own.SaveRecursions p q e h = h
draft_stays (own.CountVerdict c v r) p q e h = h

module _ {A : Type 0} (h : HeapSeen) (p : PassSeen) (t : HeapCall) (plan : StepPlan)
    (f : ℕ → StepTree A) (due : IsDueOn h p t (step plan f)) (task : plan.task ≡ t) where
  -- the step can be made
  pub can : IsOf h p → LogHasRoom plan.note p.known.log p.limit → is_shot plan.own ≡ false → CanStep h p plan
  can is_of room shotless = record {
    heap = is_of;
    next = next_due h.heap.shape h.heap.start h.heap.biasing p.known t plan f due task;
    room = room;
    drafted = undrafted plan.own h.heap.shape p.known p shotless;
  }

  -- and then the rest is due
  pub rest_due : (q : PassSeen) (n : ℕ) → HasStepped h p q plan n → IsDueOn h q t (f n)
  rest_due q n s = subst (λ k. IsDue h.heap.shape h.heap.start h.heap.biasing k t (f n))
      (sym s.known) (then_due h.heap.shape h.heap.start h.heap.biasing p.known t plan f due task n)

-- after such a step the run goes on
pub stepped : {A : Type 0} (h : HeapSeen) (p q r : PassSeen) (plan : StepPlan) (f : ℕ → StepTree A) (n : ℕ) (a : A)
    → HasStepped h p q plan n → is_shot plan.own ≡ false
    → HasMadeSteps h (f n) q r a → HasMadeSteps h (step plan f) p r a
stepped h p q r plan f n a s shotless run =
    let draft = draft_stays plan.own p q shotless s.draft in
    record {
      heap = run.heap;
      limit = run.limit ∙ s.limit;
      cut = run.cut ∙ draft.0;
      cells = run.cells ∙ draft.1;
      ran = record { by = (n, subst (λ k. Runs h.heap.shape h.heap.start (f n) k r.known a) s.known run.ran.by) };
    }

-- its end
pub ends : {A : Type 0} (h : HeapSeen) (p : PassSeen) (a : A) → IsOf h p → HasMadeSteps h (done a) p p a
ends h p a is_of = record { heap = is_of; limit = refl; cut = refl; cells = refl; ran = record { by = (refl, refl) } }

-- where nothing is left after a step, it was the last one
pub last_step : {A : Type 0} (h : HeapSeen) (p q : PassSeen) (plan : StepPlan) (f : ℕ → StepTree A) (n : ℕ) (a : A) → HasStepped h p q plan n
    → is_shot plan.own ≡ false → f n ≡ done a → HasMadeSteps h (step plan f) p q a
last_step h p q plan f n a s shotless e = stepped h p q q plan f n a s shotless (subst (λ d. HasMadeSteps h d q q a) (sym e) (ends h q a s.heap))

-- one part after the other
runs_on : {A B : Type 0} (s : Shape) (start : ℕ) (d : StepTree A) (g : A → StepTree B) (k l m : ThreadView) (a : A) (b : B)
    → Runs s start d k l a → Runs s start (g a) l m b → Runs s start (d >>= g) k m b
runs_on s start (done c) g k l m a b one two = subst (λ y. Runs s start (g c) y m b) one.0 (subst (λ z. Runs s start (g z) l m b) one.1 two)
runs_on s start unreachable g k l m a b one two = absurd one
runs_on s start (step p f) g k l m a b one two = (one.0, runs_on s start (f one.0) g (known_after s start p one.0 k) l m a b one.1 two)

pub in_turn : {A B : Type 0} (h : HeapSeen) (p q r : PassSeen) (d : StepTree A) (g : A → StepTree B) (a : A) (b : B)
    → HasMadeSteps h d p q a → HasMadeSteps h (g a) q r b → HasMadeSteps h (d >>= g) p r b
in_turn h p q r d g a b one two = record {
  heap = two.heap;
  limit = two.limit ∙ one.limit;
  cut = two.cut ∙ one.cut;
  cells = two.cells ∙ one.cells;
  ran = record { by = runs_on h.heap.shape h.heap.start d g p.known q.known r.known a b one.ran.by two.ran.by };
}

-- and then what comes after it is due, where it has a step
pub part_then : {A B : Type 0} (h : HeapSeen) (p q : PassSeen) (t : HeapCall) (plan : StepPlan) (f : ℕ → StepTree A) (g : A → StepTree B) (a : A)
    → IsDueOn h p t (step plan f >>= g) → plan.task ≡ t
    → HasMadeSteps h (step plan f) p q a → IsDueOn h q t (g a)
part_then h p q t plan f g a due task run = ran_due h.heap.shape h.heap.start h.heap.biasing p.known q.known t plan f g a due task run.ran.by

-- no call comes to where its steps say that no valid world comes
pub not_never : {A : Type 0} (h : HeapSeen) (p q : PassSeen) (t : HeapCall) (plan : StepPlan) (n : ℕ) (d : StepTree A)
    → HasStepped h p q plan n → (after : A → StepTree (Unit {0}))
    → rest_of_call h.heap.shape q.known ≡ (d >>= after) → d ≡ unreachable → ⊥
not_never h p q t plan n d s after left e =
    let stuck : is_reachable (rest_of_call h.heap.shape q.known) ≡ false = ap is_reachable left ∙ ap (λ z. is_reachable (z >>= after)) e in
    let goes = s.comes in
    absurd (cc (stuck, goes))

-- nor where the steps that are due after a step say so
module _ {A : Type 0} (h : HeapSeen) (p : PassSeen) (t : HeapCall) (plan : StepPlan) (f : ℕ → StepTree A) (due : IsDueOn h p t (step plan f))
    (task : plan.task ≡ t) (n : ℕ) where
  going : rest_of_call h.heap.shape p.known ≡ step plan (λ m. f m >>= due.after) → is_idle h.heap.shape p.known ≡ false
  unfolding is_idle
  going left = ap is_over left

  left_after : rest_of_call h.heap.shape (known_after h.heap.shape h.heap.start plan n p.known) ≡ (f n >>= due.after)
  left_after = elim due.is [
    | inl left ↦ gone_rest h.heap.shape h.heap.start p.known plan n (going left) ∙ ap (λ z. after_answer z n) left
    | inr b ↦
        begun_rest h.heap.shape h.heap.start p.known plan n b.over
        ∙ ap (λ (x : HeapCall). after_answer (steps_of h.heap.shape x (start_of h.heap.start p.known)) n) task ∙ ap (λ z. after_answer z n) b.is
  ]

  pub never_left : (q : PassSeen) → HasStepped h p q plan n → f n ≡ unreachable → ⊥
  never_left q s e = not_never h p q t plan n (f n) s due.after (ap (rest_of_call h.heap.shape) s.known ∙ left_after) e

-- so a step whose word has to pass a test finds one that does
pub passes : {A : Type 0} (h : HeapSeen) (p q : PassSeen) (t : HeapCall) (plan : StepPlan) (test : ℕ → Bool) (d : ℕ → StepTree A) (n : ℕ)
    → IsDueOn h p t (step plan (λ m. cond (test m) (d m) unreachable)) → plan.task ≡ t → HasStepped h p q plan n → test n ≡ true
passes h p q t plan test d n due task s = cases (test n) refl
  where
    cases : (b : Bool) → test n ≡ b → test n ≡ true
    cases true e = e
    cases false e = absurd (never_left h p t plan (λ m. cond (test m) (d m) unreachable) due task n q s (ap (λ b. cond b (d n) unreachable) e))
