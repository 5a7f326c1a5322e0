-- A displaced word that a running thread has seen, and may copy, is no other word meanwhile: where that thread inflates the lock that rests on the
-- record, and where the record is its own.
use Rattle.core_locks.proofs.Prelude.{◌≡◌, ◌≢◌, ◌⊎◌, ℕ, true, Some, refl, sym, ap, ◌∙◌, subst, inl, inr, Displaced, StepPlan}
use Rattle.core_locks.proofs.Prelude.{Inflates, inflation_in, ThreadView, World, word_after, last_seen, world_after, Valid}
use Rattle.core_locks.proofs.Prelude.{with_known_else, with_word_there, InMiddleOf, known_after, SeenFit}

module _ (w : World) (u r p t copied : ℕ) (plan : StepPlan) (other : u ≢ t) (runs : (w.known u).running ≡ true)
    (seen : last_seen (Displaced r p) (w.known u).seen ≡ Some copied) (at : plan.at ≡ Displaced r p)
    (differs : word_after plan.act (w.words plan.at) ≢ copied) (valid : Valid (world_after plan t w)) where
  abbrev x : World
  x = world_after plan t w

  same : x.known u ≡ w.known u
  same = with_known_else t (known_after w.shape w.start plan (w.words plan.at) (w.known t)) w.known u other

  -- also while a bias is being revoked
  seen_fit : SeenFit x valid.objects
  seen_fit = elim valid.is [ inl f ↦ f.seen | inr s ↦ s.seen ]

  other_than_seen : (r ≡ u) ⊎ InMiddleOf (w.known u) (λ i. (i.thread ≡ r) × (i.place ≡ p)) → ⊥
  other_than_seen copies =
      let stays : x.words (Displaced r p) ≡ copied =
      seen_fit.stays u (Displaced r p) copied (ap (λ (k : ThreadView). last_seen (Displaced r p) k.seen) same ∙ seen)
      (inl (
        ap (λ (k : ThreadView). k.running) same ∙ runs,
        subst (λ (k : ThreadView). (r ≡ u) ⊎ InMiddleOf k (λ i. (i.thread ≡ r) × (i.place ≡ p))) (sym same) copies,
      )) in
      differs (sym (with_word_there plan.at (word_after plan.act (w.words plan.at)) w.words) ∙ ap x.words at ∙ stays)

pub no_other_than_copied : (w : World) (o u r p t copied : ℕ) (plan : StepPlan) → u ≢ t → (w.known u).running ≡ true
    → (w.known u).stage ≡ Inflates o r p → last_seen (Displaced r p) (w.known u).seen ≡ Some copied
    → plan.at ≡ Displaced r p → word_after plan.act (w.words plan.at) ≢ copied → Valid (world_after plan t w) → ⊥
no_other_than_copied w o u r p t copied plan other runs stage seen at differs valid =
    other_than_seen w u r p t copied plan other runs seen at differs valid
    (inr (record { object = o; thread = r; place = p }, ap inflation_in stage, (refl, refl)))

pub no_other_than_own : (w : World) (r p t copied : ℕ) (plan : StepPlan) → r ≢ t
    → (w.known r).running ≡ true → last_seen (Displaced r p) (w.known r).seen ≡ Some copied
    → plan.at ≡ Displaced r p → word_after plan.act (w.words plan.at) ≢ copied → Valid (world_after plan t w) → ⊥
no_other_than_own w r p t copied plan other runs seen at differs valid = other_than_seen w r r p t copied plan other runs seen at differs valid (inl refl)
