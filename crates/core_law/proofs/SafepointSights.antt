-- What a thread has seen since its safepoint was reached stays seen, and stands in the words.
use Rattle.std.proofs.Common.{◌≡◌, ℕ, Bool, true, false, cond, Some, refl, sym, ap, ◌∙◌, subst, inl, inr}
use Rattle.core_world.specs.declared.act.Act.TheVariants.{Load}
use Rattle.core_world.specs.declared.word_id.WordId.{WordId}
use Rattle.core_world.specs.declared.plan.StepPlan.{StepPlan}
use Rattle.core_world.specs.declared.stage.Stage.TheVariants.{Settled}
use Rattle.core_world.specs.Words.Names.{same_name}
use Rattle.core_world.specs.Threads.ThreadView.{ThreadView, last_seen}
use Rattle.core_world.specs.Trees.Plans.{CallContext, load}
use Rattle.core_world.specs.Steps.{known_hit, seen_at_safepoint_before}
use Rattle.core_world.specs.Valid.{Fits, SeenFit, FormsFit}
use Rattle.core_world.proofs.Naming.{same_named, same_as_itself}
use Rattle.core_world.proofs.There.{IsFormed, is_formed}
use Rattle.core_law.specs.Logic.{Heap, SoundWorldWith, Was}
use Rattle.core_law.proofs.Standing.{away, home, valid_here}
use Rattle.core_law.proofs.Wholes.{not_calm}

-- what the one has seen since, the other has too
pub record Seeing (k l : ThreadView) : Type 0 where
  pub saw : (n : WordId) (v : ℕ) → last_seen n k.seen_at_safepoint ≡ Some v → last_seen n l.seen_at_safepoint ≡ Some v

pub seeing_all : (k l m : ThreadView) → Seeing k l → Seeing l m → Seeing k m
seeing_all k l m a b = record { saw = λ n v e. b.saw n v (a.saw n v e) }

pub seeing_itself : (k : ThreadView) → Seeing k k
seeing_itself k = record { saw = λ n v e. e }

module _ (heap : Heap) where
  module _ (k : ThreadView) (v : SoundWorldWith heap k) where
    seen_fit : SeenFit v.world v.objects
    seen_fit = elim v.valid [ inl a ↦ a.0.seen | inr a ↦ a.0.seen ]

    pub forms_fit : FormsFit v.world
    forms_fit = elim v.valid [ inl a ↦ a.0.forms | inr a ↦ a.0.forms ]

    -- whatever it finds has the form of the heap's words
    formed_here : (n : WordId) → IsFormed heap.shape n (v.world.words n)
    formed_here n = home heap k v (λ s y. IsFormed s n (v.world.words n)) (is_formed v.world n forms_fit)

    pub is_as_seen : k.reached ≡ true → (n : WordId) (u : ℕ) → last_seen n k.seen_at_safepoint ≡ Some u → v.world.words n ≡ u
    is_as_seen reached n u saw = seen_fit.stands k.thread n u (away heap k v (λ s y. y.reached ≡ true) reached)
        (away heap k v (λ s y. last_seen n y.seen_at_safepoint ≡ Some u) saw)

    pub fits_reached : k.reached ≡ true → k.stage ≡ Settled → Fits v.world v.objects
    fits_reached reached calm = elim (valid_here heap k v) [
      | inl fits ↦ fits
      | inr s ↦ absurd (not_calm v.world v.objects s k.thread (away heap k v (λ s y. y.reached ≡ true) reached) (away heap k v (λ s y. y.stage ≡ Settled) calm))
    ]

  pub found_formed : {p : StepPlan} (k : ThreadView) (at : WordId) (n : ℕ) → p.at ≡ at → Was heap p k n → IsFormed heap.shape at n
  found_formed {p} k at n is was = subst (IsFormed heap.shape at) (ap was.stands.world.words (sym is) ∙ was.found) (formed_here k was.stands at)

  -- a load there
  module _ (e : CallContext) (at : WordId) (k : ThreadView) where
    pub saw_there : (n : ℕ) → seen_at_safepoint_before at Load k ≡ k.seen_at_safepoint
        → last_seen at (known_hit heap.shape heap.start (load e at) n k).seen_at_safepoint ≡ Some n
    saw_there n kept = ap (λ (b : Bool). cond b (Some n) (last_seen at (seen_at_safepoint_before at Load k))) (same_as_itself at)

    pub still_seen : (n : ℕ) → k.reached ≡ true → seen_at_safepoint_before at Load k ≡ k.seen_at_safepoint
        → Was heap (load e at) k n → Seeing k (known_hit heap.shape heap.start (load e at) n k)
    still_seen n reached kept was = record { saw = λ m v saw. cases m v saw (same_name m at) refl }
      where
        cases : (m : WordId) (v : ℕ) → last_seen m k.seen_at_safepoint ≡ Some v → (b : Bool)
            → same_name m at ≡ b → cond b (Some n) (last_seen m (seen_at_safepoint_before at Load k)) ≡ Some v
        cases m v saw true same =
            let is : m ≡ at = same_named m at same in
            ap Some (sym was.found ∙ ap was.stands.world.words (sym is) ∙ is_as_seen k was.stands reached m v saw)
        cases m v saw false other = ap (last_seen m) kept ∙ saw
