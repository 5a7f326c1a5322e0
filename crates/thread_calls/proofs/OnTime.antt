-- Calls that are given a moment by ticks, or none, leave their pass timed.
use Rattle.std.proofs.Common.{◌≡◌, ℕ, List, [], ◌∷◌, ◌++◌, Some, None, sym, ◌∙◌, subst}
use Rattle.std.specs.List.{AllByRecursion}
use Rattle.std.proofs.lemmas.Option.{same_Some}
use Rattle.core_calls.specs.Moments.{moment_of, IsDecidedBy, IsStepOf, HasCalled}
use Rattle.core_world.specs.declared.heap_call.HeapCall.{HeapCall}
use Rattle.core_world.specs.Threads.Counts.{CountedVerdict}
use Rattle.core_world.specs.Threads.ThreadView.{ThreadView, StepMade}
use Rattle.thread_calls.specs.Timed.{IsMoment, IsOnTime, IsCountedOnTime, IsTimed}

both : {A : Type 0} (P : A → Type 0) (xs ys : List A) → AllByRecursion P xs → AllByRecursion P ys → AllByRecursion P (xs ++ ys)
both P [] ys h g = g
both P (x ∷ xs) ys h g = (h.0, both P xs ys h.1 g)

so_all : {A : Type 0} (P Q : A → Type 0) (xs : List A) → ((x : A) → P x → Q x) → AllByRecursion P xs → AllByRecursion Q xs
so_all P Q [] so h = tt
so_all P Q (x ∷ xs) so h = (so x h.0, so_all P Q xs so h.1)

module _ (tick : ℕ) (t : HeapCall) (k l : ThreadView) where
  -- a call on time
  pub timed_on : IsOnTime tick t → HasCalled t k l → IsTimed tick k → IsTimed tick l
  timed_on on h timed =
      record {
        calls = subst (AllByRecursion (λ (m : StepMade). IsOnTime tick m.plan.task)) (sym h.added)
            (both (λ (m : StepMade). IsOnTime tick m.plan.task) h.steps k.steps
            (so_all (IsStepOf t) (λ (m : StepMade). IsOnTime tick m.plan.task) h.steps (λ m of. subst (IsOnTime tick) (sym of.call) on) h.of)
            timed.calls);
        counts = subst (AllByRecursion (λ (v : CountedVerdict). IsCountedOnTime tick v.reset)) (sym h.counts)
            (both (λ (v : CountedVerdict). IsCountedOnTime tick v.reset) h.counted k.counts
            (so_all (λ (v : CountedVerdict). IsDecidedBy (moment_of t) v.reset) (λ (v : CountedVerdict). IsCountedOnTime tick v.reset) h.counted
            (λ v by. record { now = by.now; moment = on by.now by.given; decided = by.decided }) h.by)
            timed.counts);
      }

  -- one that is given such a moment
  pub timed_at : (now : ℕ) → moment_of t ≡ Some now → IsMoment tick now → HasCalled t k l → IsTimed tick k → IsTimed tick l
  timed_at now given is = timed_on (λ other e. subst (IsMoment tick) (same_Some now other (sym given ∙ e)) is)

  -- one that takes no moment
  pub timed_still : moment_of t ≡ None → HasCalled t k l → IsTimed tick k → IsTimed tick l
  timed_still none = timed_on (λ other e. absurd (cc (none, e)))
