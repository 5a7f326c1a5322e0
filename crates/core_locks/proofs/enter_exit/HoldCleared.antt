-- A thread clears its last hold word of an object after the step that logged its Exit.
use Rattle.core_locks.proofs.Prelude.{◌≡◌, ◌≢◌, ℕ, ◌<◌, ◌==◌, ◌&&◌, ◌||◌, eq-eqb, ne_eqb, Bool, true, false, List, Some, refl, sym, ap, ◌∙◌}
use Rattle.core_locks.proofs.Prelude.{subst, arith, inl, is_thread, PlainObject, Hold, Settled, Exits, inflation_in, bears, hold_words_ahead}
use Rattle.core_locks.proofs.Prelude.{recursions_ahead, recursions_lowered, one_if, with_word, ThreadView, World, with_known, lock, displaced_words}
use Rattle.core_locks.proofs.Prelude.{who, holder, hold_count, owner_at, CallContext, store, world_after, known_hit, Fits, by_equal, header_stays}
use Rattle.core_locks.proofs.Prelude.{fits_running, MayClear, KeepsValid, clear_plan, with_known_else, IsHold, hold_zero}
use Rattle.std.proofs.Math.Bool.{and-false}
use Rattle.std.proofs.lemmas.List.{length-set}
use Rattle.core_locks.proofs.enter_exit.HoldCounts.{hold_in_form}
use Rattle.core_locks.proofs.enter_exit.HoldClears.{holder_less, IsFull, inside, cleared_back, named_less}
use Rattle.core_locks.proofs.enter_exit.HoldClears.{again_less, times_less, records_less, recursions_less}
use Rattle.core_locks.proofs.enter_exit.HoldSets.{word_own, word_else, word_held, holder_told}
use Rattle.core_locks.proofs.ByThread.{biases_told, hashes_told, holds_told, records_told, records_at, recursions_told, recursions_at}
use Rattle.core_locks.proofs.Clauses.{kept_parts, parts_stand, seen, forms, holds, owners, biases, records, recursions, hashes, AllHold}
use Rattle.core_locks.proofs.Steps.{owners_move, stage_part, holding, IsPlain, plain_by, IsStep, next, step_fits, seen_next, plain_step, inflates_stay}
use Rattle.core_locks.proofs.OwnSeen.{hold_uncounted, own_seen}

module _ (w : World) (P : List PlainObject) (t : ℕ) (e : CallContext) (o p : ℕ)
    (within : t < w.shape.threads) (may : MayClear (w.known t) e o p) (v : Fits w P) where
  abbrev l : ThreadView
  l = known_hit w.shape w.start (store e (Hold t p) 0) (w.words (Hold t p)) (w.known t)

  abbrev old : List ℕ
  old = (w.known t).holds

  -- what stands there is a hold word of one of the heap's objects
  full : IsFull old o 1 p
  full =
      let is = hold_in_form w.shape o 1 (w.words (Hold t p)) (omega arith) (v.holds.stored t p ∙ may.hold) (v.forms.holds t p) in
      record { few = omega (arith, is.0, v.limits.objects); some = omega arith; small = omega arith; full = may.hold }

  -- the thread hasn't the lock
  not_holder : who w o ≡ Some t → ⊥
  not_holder h =
      let has : is_thread (who w o) t ≡ true = ap (λ f. is_thread f t) h ∙ eq-eqb t t refl in
      let hasnt : is_thread (who w o) t ≡ false = v.owners.same o t ∙ (λ j. v.owners.left o t p may.stage j || bears (may.stage j) o) in
      absurd (cc (has, hasnt))

  step : IsStep w t l holding
  step = record { within = within; mine = refl; others = λ k. refl }

  -- its record is none that recursions count
  uncounted_record : (i : ℕ) → one_if (((o == i) && false) && (displaced_words w t p == 3)) ≡ 0
  uncounted_record i = ap (λ (b : Bool). one_if (b && (displaced_words w t p == 3))) (and-false (o == i))

  -- who has the lock of an object has it still
  holder_same : (i : ℕ) → holder (lock w i) (λ z. hold_count i (with_known t l w.known z).holds) ≡ who w i
  holder_same i =
      by_equal i o
      (λ s.
      let some : hold_count i old ≢ 0 = λ z. let same = ap (λ j. hold_count j old) s in omega (arith, may.last, same, z) in
      holder_less (lock w i) (λ z. hold_count i (w.known z).holds) (λ z. hold_count i (with_known t l w.known z).holds) t some
      (λ h. not_holder (sym (ap (who w) s) ∙ h))
      (λ z d. ap (λ (k : ThreadView). hold_count i k.holds) (with_known_else t l w.known z d)))
      (λ n. holder_told (lock w i) i t l w.known
      (inl (let other = ap one_if (ne_eqb o i (λ q. n (sym q))) in omega (arith, named_less old o 1 p full i, other))))

  plain_before : IsPlain (w.known t).stage
  plain_before = subst IsPlain (sym may.stage) (plain_by (Exits o p) refl)

  plain_now : IsPlain Settled
  plain_now = plain_by Settled refl

  held : (i : ℕ) → (owner_at P i t || bears (Settled) i) ≡ true → (owner_at P i t || bears (w.known t).stage i) ≡ true
  held i h = ap (λ (b : Bool). owner_at P i t || b) (ap (λ s. bears s i) may.stage) ∙ h

  abbrev x : World
  x = next w t l holding (with_word (Hold t p) 0 w.words)

  all_after : AllHold (kept_parts w x P)
  all_after seen = let inflates = sym (ap inflation_in may.stage) in
      seen_next step x.words P (own_seen w P t (store e (Hold t p) 0) (search (may.runs, inflates, held, hold_uncounted w P t p)) v)
  all_after forms = search (word_held w.words t p 0 w.shape (subst (IsHold w.shape) (sym hold_zero) tt) v.forms.holds, v.forms)
  all_after holds = holds_told t l w.known hold_words_ahead (word_else w.words t p 0) (λ u i d. refl) (record {
    stored = word_own w.words t p 0 old (inside old o 1 p full) (v.holds.stored t);
    places = length-set old p 0 ∙ v.holds.places t;
    number = λ i. omega (arith, named_less old o 1 p full i, v.holds.number t i, ap (λ s. hold_words_ahead s i) may.stage);
    each = times_less old o 1 p full may.last (v.holds.each t);
  }) v.holds
  all_after owners = owners_move step (λ i c. cc c) (λ i q c. cc c) (λ i c. absurd (cc c)) (λ i u.
      let same = stage_part step (λ s. bears s i) (sym (ap (λ s. bears s i) may.stage)) u in
      ap (λ f. is_thread f u) (holder_same i) ∙ v.owners.same i u ∙ ap (λ (b : Bool). owner_at P i u || b) (sym same)) v
  all_after biases = biases_told t l w.known (λ i b n. omega (arith, named_less old o 1 p full i, v.biases.unheld i t b n)) v.biases
  all_after records = records_told t l w.known
      (records_less old o 1 p full (λ i q c. cc (sym may.stage ∙ c)) (λ _ rests. not_holder (ap (λ f. holder f (λ z. hold_count o (w.known z).holds)) rests))
      (records_at v.records t)) v.records
  all_after recursions = recursions_told t l w.known (recursions_less old o 1 p full plain_before (λ i. ap (λ s. recursions_ahead s i) may.stage)
      (λ i g. uncounted_record i ∙ sym (ap (λ s. recursions_lowered s i) may.stage))
      (λ i h. omega (arith, v.recursions.waiting i t h, again_less old o 1 p full i (displaced_words w t), uncounted_record i))
      (recursions_at v.recursions t)) v.recursions
  all_after hashes = hashes_told t l w.known (λ i q h. v.hashes.records i t q (cleared_back old o 1 p full q i 1 h)) v.hashes
  all_after c = plain_step step P (inl may.goes_on) plain_before plain_now may.runs v c

  cleared_fits : Fits (world_after (store e (Hold t p) 0) t w) P
  cleared_fits =
      step_fits step x.words P (kept_parts w x P)
      (parts_stand w x P refl (λ u. refl) (inflates_stay step (sym (ap inflation_in may.stage))) refl refl refl
      (λ e. header_stays x w refl refl refl e)) all_after

-- so the world stays valid
pub cleared_valid : (e : CallContext) (o p : ℕ) → KeepsValid (λ w t. MayClear (w.known t) e o p) (λ w t. clear_plan e t p)
cleared_valid e o p w P t within may valid = inl (cleared_fits w P t e o p within may (fits_running w P t may.runs valid))
