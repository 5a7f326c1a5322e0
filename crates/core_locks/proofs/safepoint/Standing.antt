-- What the threads have seen stays when the requester makes a store at its reached safepoint, and the clauses that a store there leaves.
use Rattle.core_locks.proofs.Prelude.{◌≡◌, ◌⊎◌, ℕ, Bool, true, false, cond, List, [], ◌∷◌, ◌++◌, Some, None, refl, sym, ap, ◌∙◌, subst, inl}
use Rattle.core_locks.proofs.Prelude.{inr, same_Some, read_mark, is_thread, PlainObject, WordId, Safepoint, Mark}
use Rattle.core_locks.proofs.Prelude.{StepPlan, is_biased, is_halted, revocation_in, word_after, same_name, with_word, ThreadView}
use Rattle.core_locks.proofs.Prelude.{StepMade, last_seen, World, with_known, marks, prototype_of, owner_at, Stays, StaysWhileAsking, IsValidBias}
use Rattle.core_locks.proofs.Prelude.{seen_before, Fits, IsValid, SeenFit, each_with_known, seen_is_part, has_class}
use Rattle.core_world.specs.RevocationRules.{Write, write, write_by, writes_in, words_after}
use Rattle.core_world.specs.Clauses.SeenWords.{AreTheSteps}
use Rattle.core_world.proofs.NoWordChanges.{one_requester}
use Rattle.core_locks.proofs.OwnSeen.{left_with, hit_world}
use Rattle.core_locks.proofs.Clauses.{Clause, absent, safe, waits, stamps, shots, clauses}
use Rattle.core_locks.proofs.Steps.{Fields, IsStep, GoesOnTo, Quiet, absent_next, waits_go_on, stamps_go_on, dumps_go_on}

-- a thread whose safepoint is reached, and that revokes no bias, is so in a world in which every clause holds
pub fits_standing : (w : World) (P : List PlainObject) (t : ℕ) → (w.known t).reached ≡ true → revocation_in (w.known t).stage ≡ None → IsValid w P → Fits w P
fits_standing w P t r none (inl f) = f
fits_standing w P t r none (inr s) =
    let there : (w.known s.requester).reached ≡ true = ap (λ (k : ThreadView). k.reached) s.knows ∙ s.reached in
    let same : t ≡ s.requester = one_requester w P s.safe t s.requester (s.safe.safepoint t r).0 (s.safe.safepoint s.requester there).0 in
    absurd (cc (s.its_revocation, ap (λ u. revocation_in (w.known u).stage) (sym same) ∙ none))

stored_append : (xs ys : List Write) (f : WordId → ℕ) → words_after (xs ++ ys) f ≡ words_after ys (words_after xs f)
stored_append [] ys f = refl
stored_append (x ∷ xs) ys f = stored_append xs ys (with_word x.at x.word f)

-- the step is a store, of which the thread knows that it made it
pub record IsStore (w : World) (P : List PlainObject) (t : ℕ) (p : StepPlan) : Type 0 where
  pub reached : (w.known t).reached ≡ true
  pub unrevoking : revocation_in (w.known t).stage ≡ None
  pub written : write_by p.at p.act ≡ write p.at (word_after p.act (w.words p.at)) ∷ []
  pub seen : (left_with w t p).seen ≡ record { plan = p; found = w.words p.at } ∷ seen_before w.shape (w.known t)
  pub seen_at_safepoint : (left_with w t p).seen_at_safepoint ≡ record { plan = p; found = w.words p.at } ∷ (w.known t).seen_at_safepoint
  pub running : (left_with w t p).running ≡ (w.known t).running
  pub requesting : (left_with w t p).requesting ≡ (w.known t).requesting
  pub unbiased : (o : ℕ) → is_biased (marks w o) ≡ false → is_biased (marks (hit_world w t p) o) ≡ false
  pub biased : (o : ℕ) → is_biased (marks (hit_world w t p) o) ≡ true → is_biased (marks w o) ≡ true
  pub there : (o : ℕ) → has_class w.shape w.words o ≡ true → has_class w.shape (hit_world w t p).words o ≡ true
  pub prototypes : prototype_of (hit_world w t p) ≡ prototype_of w

module _ (w : World) (P : List PlainObject) (t : ℕ) (p : StepPlan) (a : IsStore w P t p) (v : Fits w P) where
  abbrev l : ThreadView
  l = left_with w t p

  abbrev x : World
  x = hit_world w t p

  abbrev word : ℕ
  word = word_after p.act (w.words p.at)

  abbrev made : StepMade
  made = record { plan = p; found = w.words p.at }

  nobody : (u : ℕ) → (w.known u).running ≡ false
  nobody = (v.safe.safepoint t a.reached).1

  asks : (w.known t).requesting ≡ true
  asks = (v.safe.safepoint t a.reached).0

  stopped : (u : ℕ) → (with_known t l w.known u).running ≡ true → ⊥
  stopped u = each_with_known (λ u y. y.running ≡ true → ⊥) t l w.known u
      (λ r. let no = nobody t in absurd (cc (sym a.running ∙ r, no))) (λ d r. let no = nobody u in absurd (cc (r, no)))

  asking_back : (n : WordId) (s : ℕ) → StaysWhileAsking x n s → StaysWhileAsking w n s
  asking_back (Mark o) s h = subst (IsValidBias (read_mark s)) (λ i. a.prototypes i o) h
  asking_back _ s h = h

  -- what was last seen in a word is there, where what was seen before the step was there before
  newest : (n : WordId) (s : ℕ) (old : List StepMade) → (last_seen n old ≡ Some s → w.words n ≡ s)
      → (b : Bool) → same_name n p.at ≡ b → last_seen n (made ∷ old) ≡ Some s → x.words n ≡ s
  newest n s old before true e h = ap (λ b. cond b word (w.words n)) e ∙ same_Some _ _ (ap (λ b. cond b (Some word) (last_seen n old)) (sym e) ∙ h)
  newest n s old before false e h = ap (λ b. cond b word (w.words n)) e ∙ before (ap (λ b. cond b (Some word) (last_seen n old)) (sym e) ∙ h)

  newest_unbiased : (o s : ℕ) → is_biased s ≡ false
      → (last_seen (Mark o) (seen_before w.shape (w.known t)) ≡ Some s → is_biased (marks w o) ≡ false) → (b : Bool) → same_name (Mark o) p.at ≡ b
      → last_seen (Mark o) (made ∷ seen_before w.shape (w.known t)) ≡ Some s → is_biased (marks x o) ≡ false
  newest_unbiased o s g before true e h =
      ap is_biased (ap (λ b. cond b word (w.words (Mark o))) e
      ∙ same_Some _ _ (ap (λ b. cond b (Some word) (last_seen (Mark o) (seen_before w.shape (w.known t)))) (sym e) ∙ h)) ∙ g
  newest_unbiased o s g before false e h =
      a.unbiased o (before (ap (λ b. cond b (Some word) (last_seen (Mark o) (seen_before w.shape (w.known t)))) (sym e) ∙ h))

  newest_there : (o s : ℕ) → is_biased s ≡ true → (last_seen (Mark o) (seen_before w.shape (w.known t)) ≡ Some s → has_class w.shape w.words o ≡ true)
      → (b : Bool) → same_name (Mark o) p.at ≡ b
      → last_seen (Mark o) (made ∷ seen_before w.shape (w.known t)) ≡ Some s → has_class w.shape x.words o ≡ true
  newest_there o s g before true e h =
      let newest = same_Some _ _ (ap (λ b. cond b (Some word) (last_seen (Mark o) (seen_before w.shape (w.known t)))) (sym e) ∙ h) in
      let is = ap is_biased (ap (λ b. cond b word (w.words (Mark o))) e ∙ newest) ∙ g in
      a.there o (v.seen.classed o (a.biased o is))
  newest_there o s g before false e h = a.there o (before (ap (λ b. cond b (Some word) (last_seen (Mark o) (seen_before w.shape (w.known t)))) (sym e) ∙ h))

  one_more : AreTheSteps x.words (made ∷ (w.known t).seen_at_safepoint)
  one_more =
      let b = v.seen.alone t a.reached a.unrevoking in
      record {
        before = b.before;
        found = (ap (λ (f : WordId → ℕ). f p.at) b.same, b.found);
        same =
            ap (λ (f : WordId → ℕ). with_word p.at word f) b.same ∙ sym (ap (λ z. words_after (writes_in (w.known t).seen_at_safepoint ++ z) b.before) a.written
            ∙ stored_append (writes_in (w.known t).seen_at_safepoint) (write p.at word ∷ []) b.before);
      }

  pub standing_seen : SeenFit x P
  standing_seen = record {
    stays = λ u n s. each_with_known (λ u y. last_seen n y.seen ≡ Some s → Stays x y (owner_at P) u n s → x.words n ≡ s) t l w.known u
        (λ e g. elim g [
          | inl h ↦ let no = nobody t in absurd (cc (sym a.running ∙ h.0, no))
          | inr h ↦ newest n s (seen_before w.shape (w.known t)) (λ c. v.seen.stays t n s
              (seen_is_part w.shape (w.known t) n s c) (inr (asks, a.unrevoking, asking_back n s h.2))) (same_name n p.at) refl
              (ap (last_seen n) (sym a.seen) ∙ e)
        ])
        (λ d e g. elim g [
          | inl h ↦ let no = nobody u in absurd (cc (h.0, no))
          | inr h ↦ absurd (d (one_requester w P v.safe u t h.0 asks))
        ]);
    unbiased = λ u o s. each_with_known (λ u y. last_seen (Mark o) y.seen ≡ Some s
        → (y.running ≡ true) ⊎ (y.requesting ≡ true) → is_biased s ≡ false → is_biased (marks x o) ≡ false) t l w.known u
        (λ e r g. newest_unbiased o s g (λ c. v.seen.unbiased t o s (seen_is_part w.shape (w.known t) (Mark o) s c) (inr asks) g)
        (same_name (Mark o) p.at) refl (ap (last_seen (Mark o)) (sym a.seen) ∙ e))
        (λ d e r g. a.unbiased o (v.seen.unbiased u o s e r g));
    classed = λ o e. a.there o (v.seen.classed o (a.biased o e));
    saw_classed = λ u o s. each_with_known (λ u y. last_seen (Mark o) y.seen ≡ Some s
        → (y.running ≡ true) ⊎ (y.requesting ≡ true) → is_biased s ≡ true → has_class w.shape x.words o ≡ true) t l w.known u
        (λ e r g. newest_there o s g (λ c. v.seen.saw_classed t o s (seen_is_part w.shape (w.known t) (Mark o) s c) (inr asks) g)
        (same_name (Mark o) p.at) refl (ap (last_seen (Mark o)) (sym a.seen) ∙ e))
        (λ d e r g. a.there o (v.seen.saw_classed u o s e r g));
    unwaiting = λ u y o s e r. absurd (stopped u r);
    unwaited = λ u o s e r. absurd (stopped u r);
    stands = λ u n s. each_with_known (λ u y. y.reached ≡ true → last_seen n y.seen_at_safepoint ≡ Some s → x.words n ≡ s) t l w.known u
        (λ r e. newest n s (w.known t).seen_at_safepoint (v.seen.stands t n s a.reached)
        (same_name n p.at) refl (ap (last_seen n) (sym a.seen_at_safepoint) ∙ e))
        (λ d r e. absurd (d (one_requester w P v.safe u t (v.safe.safepoint u r).0 asks)));
    alone = λ u. each_with_known (λ u y. y.reached ≡ true → revocation_in y.stage ≡ None → AreTheSteps x.words y.seen_at_safepoint) t l w.known u
        (λ r e. subst (AreTheSteps x.words) (sym a.seen_at_safepoint) one_more)
        (λ d r e. absurd (d (one_requester w P v.safe u t (v.safe.safepoint u r).0 asks)));
    monitors = λ u m s r. absurd (stopped u r);
  }

-- THE CLAUSES that a quiet step leaves it leaves at a reached safepoint too.
module _ {w : World} {t : ℕ} {l : ThreadView} {fields : Fields} (s : IsStep w t l fields) (P : List PlainObject)
    (goes_on : GoesOnTo (w.known t) l) (reached : (w.known t).reached ≡ true) (v : Fits w P) where
  asks_there : (w.known t).requesting ≡ true
  asks_there = (v.safe.safepoint t reached).0

  unhalted : is_halted (w.words Safepoint) ≡ true → ⊥
  unhalted e = let none = ap (λ b. is_thread b t) (v.safe.still e).0 in let some = v.safe.requester t ∙ asks_there in absurd (cc (none, some))

  pub standing_step : (c : Clause) → Quiet s P goes_on c
  standing_step absent = absent_next s P v
  standing_step safe = record {
    bits = v.safe.bits;
    few = v.safe.few;
    requester = v.safe.requester;
    safepoint = v.safe.safepoint;
    stopped = v.safe.stopped;
    still = λ e. absurd (unhalted e);
  }
  standing_step waits = waits_go_on s P goes_on v
  standing_step stamps = stamps_go_on s P goes_on v
  standing_step shots = dumps_go_on s P goes_on v
  standing_step c = clauses w P v c
