-- Stores and exchanges of an object's mark that lead to no valid world: where it would name a monitor, where it names one, and where it is 0.
use Rattle.core_locks.proofs.Prelude.{◌≡◌, ◌≢◌, ℕ, ◌||◌, Bool, true, false, List, Option, Some, None, refl, sym, ap, ◌∙◌, subst, inl, inr}
use Rattle.core_locks.proofs.Prelude.{read_mark, is_thread, PlainObject, WordId, Mark, Owner, Header, StepPlan, Stage, Settled, RecordLocked}
use Rattle.core_locks.proofs.Prelude.{Inflates, is_neutral, is_biased, hash_in, monitor_in, Inflation, inflation_in, bears, ThreadView, World}
use Rattle.core_locks.proofs.Prelude.{with_word_and_known, Open, OnRecord, lock, header, header_form, marks, displaced_words, headers, owner_words}
use Rattle.core_locks.proofs.Prelude.{prototype_of, inflations, who, holder, hold_count, owner_at, hash_at, CallContext, with_stage, store, swap}
use Rattle.core_locks.proofs.Prelude.{world_after, Fits, by_equal, with_known_here, with_known_else, each_with_known, same_Some, mark_zero}
use Rattle.core_locks.proofs.Prelude.{thread_is, arith, MarkForm, Inflating, Neutral, Anonymous, Biased, Locked, Inflated, Marked, OwnerForm}
use Rattle.core_locks.proofs.Prelude.{Free, ByThread, ByRecord, mark_of, read_owner, owner_of, read_mark-spells, monitor_form, is_biased_form}
use Rattle.core_locks.proofs.Prelude.{owner_lock, Fetches, Returns, lock_form, with_own, Valid, IsMark, IsOwner, running_fits, lock_by_form}
use Rattle.core_locks.proofs.Prelude.{with_word_there, same_number, ◌+◌, ◌-◌, ◌%◌, ◌^◌, ◌<◌, ◌≤◌, Ring, ring_bits, monitor_count}
use Rattle.core_world.specs.Clauses.Claims.{Place, With, At, Leaves, InRing}
use Rattle.core_world.proofs.deflation.Rings.{ring_few, place_of_word}
use Rattle.core_locks.proofs.monitor.Claims.{next_word}
use Rattle.core_locks.proofs.monitor.Places.{kept_apart}
use Rattle.mark_word.proofs.ReadingOwners.{read_owner-spells}
use Rattle.core_world.specs.declared.plan.LocalEffect.TheVariants.{DropClaim}
use Rattle.core_locks.proofs.WaitOut.{neither}
use Rattle.core_locks.proofs.MarkChanges.{mark_else}
use Rattle.core_locks.proofs.MarkMeanings.{neutral_lock, neutral_header, locked_word}
use Rattle.core_locks.proofs.monitor.RefutedInflations.{inflated_form_of, header_is_neutral, same_header, inflated_mark, inflating_lock, same_record}
use Rattle.core_locks.proofs.RefutedSilent.{same_objects, others_have, holder_stays}
use Rattle.core_locks.proofs.RefutedSteps.{knows, swap_hits, hit_fits}

-- what a thread knows of its holds, and where it stands, that is calm now
holds_stay : (w : World) (t : ℕ) (l : ThreadView) (u : ℕ) → l.holds ≡ (w.known t).holds
    → ((with_word_and_known (Mark 0) 0 t l w).known u).holds ≡ (w.known u).holds
holds_stay w t l u same = each_with_known (λ z k. k.holds ≡ (w.known z).holds) t l w.known u same (λ d. refl)

unseized : (w : World) (t : ℕ) (l : ThreadView) (u o a : ℕ) → (l.stage ≡ RecordLocked o a → ⊥)
    → ((with_word_and_known (Mark 0) 0 t l w).known u).stage ≡ RecordLocked o a → (w.known u).stage ≡ RecordLocked o a
unseized w t l u o a none =
    each_with_known (λ z k. k.stage ≡ RecordLocked o a → (w.known z).stage ≡ RecordLocked o a) t l w.known u (λ e. absurd (none e)) (λ d e. e)

-- THE MARK NAMES A MONITOR NOW. The thread is calm.
module _ (w : World) (P Q : List PlainObject) (o m n t : ℕ) (l : ThreadView) (silent : l.log ≡ (w.known t).log)
    (calm : l.stage ≡ Settled) (own : l.holds ≡ (w.known t).holds) (word : n ≡ mark_of (Inflated m)) (before : Fits w P)
    (afterwards : Fits (with_word_and_known (Mark o) n t l w) Q) where
  abbrev x : World
  x = with_word_and_known (Mark o) n t l w

  form : read_mark (marks x o) ≡ Some (Inflated m)
  form =
      let same = with_word_there (Mark o) n w.words ∙ word in
      ap read_mark same ∙ inflated_form_of w.shape m (subst (λ k. IsMark w.shape (read_mark k)) same (afterwards.forms.marks o))

  -- the monitor's header is the object's
  header_is : (h : ℕ) → header w o ≡ Some h → w.words (Header m) ≡ h
  header_is h e =
      let now : hash_in (w.words (Header m)) ≡ hash_at Q o =
      afterwards.hashes.stands o (headers x m) (ap (λ f. header_form f (marks x o) (displaced_words x) (headers x) (inflations x o)) form) in
      let objects = same_objects w P Q (Mark o) n t l silent before afterwards in
      same_header (w.words (Header m)) h (afterwards.monitors.neutral o m (ap monitor_form form)) (header_is_neutral w P o h before e)
      (now ∙ ap (λ R. hash_at R o) (sym objects) ∙ sym (before.hashes.stands o h e))

  lock_now : lock x o ≡ owner_lock (read_owner (w.words (Owner m)))
  lock_now = lock_by_form x o (Inflated m) form

  who_now : (f : Option OwnerForm) → read_owner (w.words (Owner m)) ≡ f → who x o ≡ holder (owner_lock f) (λ z. hold_count o (x.known z).holds)
  who_now f r = ap (λ k. holder k (λ z. hold_count o (x.known z).holds)) (lock_now ∙ ap owner_lock r)

  -- where the lock rested on a record, its owner is that record, or its thread
  owner_is : (u p : ℕ) → lock w o ≡ OnRecord u p → bears (w.known t).stage o ≡ false
      → w.words (Owner m) ≢ owner_of (ByRecord u p) → w.words (Owner m) ≢ owner_of (ByThread u) → ⊥
  owner_is u p was unborne record_else thread_else = by_form (read_owner (w.words (Owner m))) refl
    where
      has : who x o ≡ Some u
      has = sym (holder_stays w P Q (Mark o) n t l silent before afterwards o (unborne ∙ ap (λ s. bears s o) (sym calm)))
          ∙ ap (λ k. holder k (λ z. hold_count o (w.known z).holds)) was

      by_form : (f : Option OwnerForm) → read_owner (w.words (Owner m)) ≡ f → ⊥
      by_form None r = absurd (cc (sym has ∙ who_now None r))
      by_form (Some Free) r = absurd (cc (sym has ∙ who_now (Some Free) r))
      by_form (Some (ByThread v)) r =
          let same : v ≡ u = same_Some _ _ (sym (who_now (Some (ByThread v)) r) ∙ has) in
          thread_else ((read_owner-spells (w.words (Owner m)) (ByThread v) r).1 ∙ ap (λ k. owner_of (ByThread k)) same)
      by_form (Some (ByRecord v q)) r =
          let same : v ≡ u = same_Some _ _ (sym (who_now (Some (ByRecord v q)) r) ∙ has) in
          let rests : lock x o ≡ OnRecord u q = lock_now ∙ ap owner_lock r ∙ ap (λ k. OnRecord k q) same in
          let place : p ≡ q = same_record w x P Q o u p q before afterwards
          (holds_stay w t l u own) (λ a. unseized w t l u o a (λ e. cc (calm, e))) was rests in
          record_else ((read_owner-spells (w.words (Owner m)) (ByRecord v q) r).1
          ∙ ap (λ k. owner_of (ByRecord k q)) same ∙ ap (λ k. owner_of (ByRecord u k)) (sym place))

  -- where nobody had the lock, it has none
  owner_is_free : lock w o ≡ Open → w.words (Owner m) ≢ owner_of Free → ⊥
  owner_is_free was owned = by_form (read_owner (w.words (Owner m))) refl (afterwards.forms.owners m)
    where
      nobody : who w o ≡ None
      nobody = ap (λ k. holder k (λ z. hold_count o (w.known z).holds)) was

      unborne : bears (w.known t).stage o ≡ false
      unborne = (neither (owner_at P o t) (bears (w.known t).stage o) (ap (λ a. is_thread a t) (sym nobody) ∙ before.owners.same o t)).1

      none : who x o ≡ None
      none = sym (holder_stays w P Q (Mark o) n t l silent before afterwards o (unborne ∙ ap (λ s. bears s o) (sym calm))) ∙ nobody

      by_form : (f : Option OwnerForm) → read_owner (w.words (Owner m)) ≡ f → IsOwner w.shape f → ⊥
      by_form None r h = h
      by_form (Some Free) r h = owned (read_owner-spells (w.words (Owner m)) Free r).1
      by_form (Some (ByThread v)) r h = absurd (cc (sym none ∙ who_now (Some (ByThread v)) r))
      by_form (Some (ByRecord v q)) r h = absurd (cc (sym none ∙ who_now (Some (ByRecord v q)) r))

abbrev storing : ℕ → ℕ → CallContext → StepPlan
storing o mark e = with_own DropClaim (store e (Mark o) mark)

abbrev exchanging : ℕ → ℕ → ℕ → CallContext → StepPlan
exchanging o m mark e = with_own DropClaim (swap e (Mark o) mark (mark_of (Inflated m)))

pub no_header_stored : (w : World) (o m t h : ℕ) (e : CallContext) → Valid w → (w.known t).running ≡ true → header w o ≡ Some h → w.words (Header m) ≢ h
    → Valid (world_after (with_own DropClaim (store e (Mark o) (mark_of (Inflated m)))) t w) → ⊥
no_header_stored w o m t h e v runs is differs valid =
    let plan = storing o (mark_of (Inflated m)) e in
    let a = hit_fits plan t w refl runs valid in
    differs (header_is w v.objects a.0 o m (mark_of (Inflated m)) t (knows plan t w) refl refl refl refl (running_fits w v t runs) a.1 h is)

pub no_header_exchanged : (w : World) (o m t mark : ℕ) (e : CallContext) → Valid w
    → (w.known t).running ≡ true → w.words (Mark o) ≡ mark → is_neutral mark ≡ true → w.words (Header m) ≢ mark
    → Valid (world_after (with_own DropClaim (swap e (Mark o) mark (mark_of (Inflated m)))) t w) → ⊥
no_header_exchanged w o m t mark e v runs found neutral differs valid =
    let plan = exchanging o m mark e in
    let test = swap_hits (w.words (Mark o)) mark (mark_of (Inflated m)) found in
    let a = hit_fits plan t w test.0 runs valid in
    let is : header w o ≡ Some mark =
    neutral_header (marks w o) (displaced_words w) (headers w) (inflations w o) (ap is_neutral found ∙ neutral) ∙ ap Some found in
    differs (header_is w v.objects a.0 o m _ t (knows plan t w) refl refl refl test.1 (running_fits w v t runs) a.1 mark is)

pub no_owner_resting : (w : World) (o m t u p : ℕ) (e : CallContext) → Valid w
    → (w.known t).running ≡ true → lock w o ≡ OnRecord u p → bears (w.known t).stage o ≡ false
    → w.words (Owner m) ≢ owner_of (ByRecord u p) → w.words (Owner m) ≢ owner_of (ByThread u)
    → Valid (world_after (with_own DropClaim (store e (Mark o) (mark_of (Inflated m)))) t w) → ⊥
no_owner_resting w o m t u p e v runs was unborne record_else thread_else valid =
    let plan = storing o (mark_of (Inflated m)) e in
    let a = hit_fits plan t w refl runs valid in
    owner_is w v.objects a.0 o m (mark_of (Inflated m)) t (knows plan t w) refl refl refl refl
    (running_fits w v t runs) a.1 u p was unborne record_else thread_else

pub no_owner_open : (w : World) (o m t : ℕ) (e : CallContext) → Valid w → (w.known t).running ≡ true → lock w o ≡ Open → w.words (Owner m) ≢ owner_of Free
    → Valid (world_after (with_own DropClaim (store e (Mark o) (mark_of (Inflated m)))) t w) → ⊥
no_owner_open w o m t e v runs was owned valid =
    let plan = storing o (mark_of (Inflated m)) e in
    let a = hit_fits plan t w refl runs valid in
    owner_is_free w v.objects a.0 o m (mark_of (Inflated m)) t (knows plan t w) refl refl refl refl (running_fits w v t runs) a.1 was owned

pub no_owner_exchanged : (w : World) (o m t mark : ℕ) (e : CallContext) → Valid w
    → (w.known t).running ≡ true → w.words (Mark o) ≡ mark → is_neutral mark ≡ true
    → w.words (Owner m) ≢ owner_of Free → Valid (world_after (with_own DropClaim (swap e (Mark o) mark (mark_of (Inflated m)))) t w) → ⊥
no_owner_exchanged w o m t mark e v runs found neutral owned valid =
    let plan = exchanging o m mark e in
    let test = swap_hits (w.words (Mark o)) mark (mark_of (Inflated m)) found in
    let a = hit_fits plan t w test.0 runs valid in
    let was : lock w o ≡ Open = neutral_lock (marks w o) (prototype_of w o) (owner_words w) (inflations w o) (ap is_neutral found ∙ neutral) in
    owner_is_free w v.objects a.0 o m _ t (knows plan t w) refl refl refl test.1 (running_fits w v t runs) a.1 was owned

-- A MARK THAT NAMES A MONITOR is stored over: nobody keeps the monitor or gives it back, no mark names it, and it isn't in the ring.
module _ (w : World) (P Q : List PlainObject) (o m n t : ℕ) (l : ThreadView)
    (kept : (a : ℕ) → l.kept ≡ Some a → (w.known t).kept ≡ Some a) (fetches : (p : ℕ) → l.moving ≡ Fetches p → (w.known t).moving ≡ Fetches p)
    (returns : l.moving ≡ Returns m → (w.known t).moving ≡ Returns m) (before : Fits w P)
    (afterwards : Fits (with_word_and_known (Mark o) n t l w) Q) (names : monitor_in (marks w o) ≡ Some m) (other : monitor_in n ≢ Some m) where
  was : (m < monitor_count w.shape) × (before.claims.place m ≡ At o)
  was = before.claims.names o m names

  -- the same positions, counted modulo 2 ^ 64
  as_many : before.claims.ringed ≡ afterwards.claims.ringed
  as_many =
      let few = before.limits in
      omega (
        arith,
        before.claims.claim_word,
        afterwards.claims.claim_word,
        before.claims.end_word,
        afterwards.claims.end_word,
        before.claims.counted,
        afterwards.claims.counted,
        few.threads,
        few.objects,
      )

  in_ring : (p : ℕ) → afterwards.claims.first ≤ p → p < afterwards.claims.first + afterwards.claims.ringed → w.words (Ring (p % 2 ^ ring_bits w.shape)) ≡ m → ⊥
  in_ring p low high is =
      let d = p - afterwards.claims.first in
      let q = before.claims.first + d in
      let small : ring_bits w.shape ≤ 64 = (let few = ring_few w.shape in omega (arith, few)) in
      let there = before.claims.stands q (omega arith) (omega (arith, low, high, as_many)) in
      let back : afterwards.claims.first + d ≡ p = omega (arith, low) in
      let words : q % 2 ^ 64 ≡ p % 2 ^ 64 =
      sym (next_word before.claims.first (2 ^ 64) d) ∙ ap (λ c. (c + d) % 2 ^ 64) (sym before.claims.claim_word ∙ afterwards.claims.claim_word)
      ∙ next_word afterwards.claims.first (2 ^ 64) d ∙ ap (λ c. c % 2 ^ 64) back in
      let places : q % 2 ^ ring_bits w.shape ≡ p % 2 ^ ring_bits w.shape =
      sym (place_of_word q (ring_bits w.shape) small) ∙ ap (λ c. c % 2 ^ ring_bits w.shape) words ∙ place_of_word p (ring_bits w.shape) small in
      let it = was.1 in
      let ringed = ap before.claims.place (sym is ∙ ap (λ c. w.words (Ring c)) (sym places)) ∙ there.1 in
      absurd (cc (it, ringed))

  no_place : (a : Place) → afterwards.claims.place m ≡ a → ⊥
  no_place (With h) e = elim (afterwards.claims.kept_there h m was.0 e) [
    | inl k ↦ kept_apart before.claims h o m (each_with_known (λ u k. k.kept ≡ Some m → (w.known u).kept ≡ Some m) t l w.known h (kept m) (λ d e. e) k) names
    | inr k ↦ let it = was.1 in let there = ap before.claims.place (sym k.2) ∙ (before.claims.fetches h k.0 (each_with_known
        (λ u y. y.moving ≡ Fetches k.0 → (w.known u).moving ≡ Fetches k.0) t l w.known h (fetches k.0) (λ d e. e) k.1)).2 in absurd (cc (it, there))
  ]
  no_place (At i) e =
      let h = afterwards.claims.named_there i m was.0 e in
      by_equal i o
      (λ s. other (ap monitor_in (sym (with_word_there (Mark o) n w.words))
      ∙ ap (λ i. monitor_in (marks (with_word_and_known (Mark o) n t l w) i)) (sym s) ∙ h))
      (λ d. d (before.monitors.alone i o m (ap monitor_in (sym (mark_else w o n t l i d)) ∙ h) names))
  no_place (Leaves u) e = let it = was.1 in let there = (before.claims.returns u m (each_with_known (λ u y. y.moving ≡ Returns m
      → (w.known u).moving ≡ Returns m) t l w.known u returns (λ d e. e) (afterwards.claims.returned_there u m was.0 e))).1 in absurd (cc (it, there))
  no_place (InRing p) e = let h = afterwards.claims.ringed_there p m was.0 e in in_ring p h.0 h.1 h.2

  pub no_monitor_lost : ⊥
  no_monitor_lost = no_place (afterwards.claims.place m) refl

pub no_store_keeps : (w : World) (o m t mark : ℕ) (e : CallContext) (s : Stage) → Valid w
    → (w.known t).running ≡ true → monitor_in (w.words (Mark o)) ≡ Some m → monitor_in mark ≢ Some m
    → Valid (world_after (with_stage s (store e (Mark o) mark)) t w) → ⊥
no_store_keeps w o m t mark e s v runs names other valid =
    let plan : StepPlan = with_stage s (store e (Mark o) mark) in
    let a = hit_fits plan t w refl runs valid in
    no_monitor_lost w v.objects a.0 o m mark t (knows plan t w) (λ a k. k) (λ p h. h) (λ h. h) (running_fits w v t runs) a.1 names other

pub no_store_spends : (w : World) (o m t mark : ℕ) (e : CallContext) → Valid w
    → (w.known t).running ≡ true → monitor_in (w.words (Mark o)) ≡ Some m → monitor_in mark ≢ Some m
    → Valid (world_after (with_own DropClaim (store e (Mark o) mark)) t w) → ⊥
no_store_spends w o m t mark e v runs names other valid =
    let plan = storing o mark e in
    let a = hit_fits plan t w refl runs valid in
    no_monitor_lost w v.objects a.0 o m mark t (knows plan t w) (λ a k. absurd (cc k)) (λ p h. h) (λ h. h) (running_fits w v t runs) a.1 names other

-- A MARK THAT ANOTHER THREAD INFLATES is 0, and that thread alone inflates it.
still_inflates : (w : World) (t u o a b : ℕ) (at : WordId) (n : ℕ) (l : ThreadView) → u ≢ t
    → (w.known u).stage ≡ Inflates o a b → ((with_word_and_known at n t l w).known u).stage ≡ Inflates o a b
still_inflates w t u o a b at n l other is = ap (λ k. k.stage) (with_known_else t l w.known u other) ∙ is

pub no_store_names : (w : World) (o m t u a b : ℕ) (e : CallContext) → (w.known t).running ≡ true → u ≢ t → (w.known u).stage ≡ Inflates o a b
    → Valid (world_after (with_own DropClaim (store e (Mark o) (mark_of (Inflated m)))) t w) → ⊥
no_store_names w o m t u a b e runs other is valid =
    let plan = storing o (mark_of (Inflated m)) e in
    let afterwards = hit_fits plan t w refl runs valid in
    let zero = inflated_mark (with_word_and_known (Mark o) (mark_of (Inflated m)) t (knows plan t w) w) afterwards.0 u o a b afterwards.1
    (still_inflates w t u o a b (Mark o) (mark_of (Inflated m)) (knows plan t w) other is) in
    let word : mark_of (Inflated m) ≡ 0 = sym (with_word_there (Mark o) (mark_of (Inflated m)) w.words) ∙ zero in
    absurd (omega (arith, word))

pub no_store_inflates : (w : World) (o t u a b c d : ℕ) (e : CallContext) → (w.known t).running ≡ true → u ≢ t → (w.known u).stage ≡ Inflates o a b
    → Valid (world_after (with_stage (Inflates o c d) (store e (Mark o) 0)) t w) → ⊥
no_store_inflates w o t u a b c d e runs other is valid =
    let plan : StepPlan = with_stage (Inflates o c d) (store e (Mark o) 0) in
    let afterwards = hit_fits plan t w refl runs valid in
    let l = knows plan t w in
    let mine : Inflation = record { object = o; thread = c; place = d } in
    let its : Inflation = record { object = o; thread = a; place = b } in
    let first = ap inflation_in (still_inflates w t u o a b (Mark o) 0 l other is) in
    let second = ap (λ k. inflation_in k.stage) (with_known_here t l w.known) in
    other (afterwards.1.inflating.one u t its mine first second refl)

-- A MARK IS 0 NOW, in place of one that had no bias pattern. It named the record by which the thread inflates.
module _ (w : World) (P Q : List PlainObject) (o t u p : ℕ) (l : ThreadView) (silent : l.log ≡ (w.known t).log) (at : l.stage ≡ Inflates o u p)
    (own : l.holds ≡ (w.known t).holds) (moved : l.moving ≡ (w.known t).moving) (kept : l.kept ≡ (w.known t).kept) (before : Fits w P)
    (afterwards : Fits (with_word_and_known (Mark o) 0 t l w) Q) where
  abbrev z : World
  z = with_word_and_known (Mark o) 0 t l w

  here : (z.known t).stage ≡ Inflates o u p
  here = ap (λ k. k.stage) (with_known_here t l w.known) ∙ at

  rests : lock z o ≡ OnRecord u p
  rests = inflating_lock z Q t o u p afterwards here

  has_now : is_thread (who z o) u ≡ true
  has_now = ap (λ k. is_thread (holder k (λ y. hold_count o (z.known y).holds)) u) rests ∙ same_number u

  -- the record's thread had the lock before: as its plain owner, if it is the thread that inflates
  had : who w o ≡ Some u
  had = thread_is (who w o) u (by_equal u t
      (λ s.
      let owns : owner_at Q o t ≡ true = left_true (owner_at Q o t) (bears (z.known t).stage o)
      (sym (afterwards.owners.same o t) ∙ ap (λ y. is_thread (who z o) y) (sym s) ∙ has_now) (ap (λ y. bears y o) here) in
      ap (is_thread (who w o)) s ∙ before.owners.same o t
      ∙ ap (λ b. b || bears (w.known t).stage o) (ap (λ R. owner_at R o t) (same_objects w P Q (Mark o) 0 t l silent before afterwards) ∙ owns))
      (λ d. others_have w P Q (Mark o) 0 t l silent before afterwards o u d ∙ has_now))
    where
      left_true : (a b : Bool) → (a || b) ≡ true → b ≡ false → a ≡ true
      left_true true b e f = refl
      left_true false b e f = absurd (cc (e, f))

  no_zero : is_biased (marks w o) ≡ false → marks w o ≢ 0 → marks w o ≢ mark_of (Locked u p) → ⊥
  no_zero unbiased some other = by_form (read_mark (marks w o)) refl (before.forms.marks o)
    where
      has : (f : MarkForm) → read_mark (marks w o) ≡ Some f
          → holder (lock_form (Some f) (prototype_of w o) (owner_words w) (inflations w o)) (λ y. hold_count o (w.known y).holds) ≡ Some u
      has f r = ap (λ k. holder k (λ y. hold_count o (w.known y).holds)) (sym (lock_by_form w o f r)) ∙ had

      by_form : (f : Option MarkForm) → read_mark (marks w o) ≡ f → IsMark w.shape f → ⊥
      by_form None r h = h
      by_form (Some Marked) r h = h
      by_form (Some Inflating) r h = some (read_mark-spells (marks w o) Inflating r).1
      by_form (Some (Neutral hash age)) r h = absurd (cc (has (Neutral hash age) r))
      by_form (Some (Anonymous epoch age)) r h = absurd (cc (unbiased, ap is_biased_form r))
      by_form (Some (Biased thread epoch age)) r h = absurd (cc (unbiased, ap is_biased_form r))
      by_form (Some (Locked a b)) r h =
          let same : a ≡ u = same_Some _ _ (has (Locked a b) r) in
          let was : lock w o ≡ OnRecord u b = lock_by_form w o (Locked a b) r ∙ ap (λ k. OnRecord k b) same in
          let place : b ≡ p = same_record w z P Q o u b p before afterwards (holds_stay w t l u own) (λ c. unseized w t l u o c (λ e. cc (at, e))) was rests in
          other (locked_word (marks w o) a b r ∙ ap (λ k. mark_of (Locked k b)) same ∙ ap (λ k. mark_of (Locked u k)) place)
      by_form (Some (Inflated m)) r h =
          no_monitor_lost w P Q o m 0 t l (λ c k. sym kept ∙ k) (λ c h. sym moved ∙ h)
          (λ h. sym moved ∙ h) before afterwards (ap monitor_form r) (λ e. cc (sym e ∙ ap monitor_form mark_zero))

pub no_store_of_zero : (w : World) (o t u p : ℕ) (e : CallContext) → Valid w
    → (w.known t).running ≡ true → is_biased (w.words (Mark o)) ≡ false → w.words (Mark o) ≢ 0
    → w.words (Mark o) ≢ mark_of (Locked u p) → Valid (world_after (with_stage (Inflates o u p) (store e (Mark o) 0)) t w) → ⊥
no_store_of_zero w o t u p e v runs unbiased some other valid =
    let plan : StepPlan = with_stage (Inflates o u p) (store e (Mark o) 0) in
    let a = hit_fits plan t w refl runs valid in
    no_zero w v.objects a.0 o t u p (knows plan t w) refl refl refl refl refl (running_fits w v t runs) a.1 unbiased some other
