-- A thread stores a displaced word at a free place of its own.
use Rattle.core_locks.proofs.Prelude.{◌≡◌, ◌≢◌, ◌⊎◌, ℕ, ◌+◌, ◌<◌, ◌==◌, ◌&&◌, ne_eqb, Bool, false, cond, List, slice_index, Option, Some, refl, sym}
use Rattle.core_locks.proofs.Prelude.{ap, ◌∙◌, arith, inl, inr, MarkForm, read_mark, Locked, Inflating, PlainObject, Displaced, StepPlan}
use Rattle.core_locks.proofs.Prelude.{RecordLocked, hold_word, is_neutral, is_deeper, hash_in, Inflation, inflation_in, recursions_ahead, ThreadView}
use Rattle.core_locks.proofs.Prelude.{World, with_word_and_known, OnRecord, record_lock, lock, lock_form, header, header_form, marks, displaced_words}
use Rattle.core_locks.proofs.Prelude.{headers, owner_words, prototype_of, inflations, recursion_count, owner_at, Stays, CallContext, known_hit, Fits}
use Rattle.core_locks.proofs.Prelude.{by_equal, mark_zero, hold_some, deeper_none, fits_running, KeepsValid, MayDisplace, displace_plan}
use Rattle.std.proofs.Math.Bool.{and-false}
use Rattle.core_locks.proofs.enter_exit.MarkHolds.{number_same}
use Rattle.core_locks.proofs.Clauses.{kept_parts, parts_stand, seen, records, recursions, hashes, AllHold}
use Rattle.core_locks.proofs.Steps.{quietly, IsStep, next, step_fits, seen_next, quiet_step}
use Rattle.core_locks.proofs.OwnSeen.{own_seen}

-- the header of an object stands where its lock rests, or in no displaced word
header_where_it_rests : (f : Option MarkForm) (mark prototype : ℕ) (owners headers : ℕ → ℕ) (a b : ℕ → ℕ → ℕ) (inflation : Option Inflation)
    → ((u q : ℕ) → lock_form f prototype owners inflation ≡ OnRecord u q → a u q ≡ b u q)
    → header_form f mark a headers inflation ≡ header_form f mark b headers inflation
header_where_it_rests (Some Inflating) mark prototype owners headers a b (Some i) h = ap Some (h i.thread i.place refl)
header_where_it_rests (Some (Locked u q)) mark prototype owners headers a b inflation h = ap Some (h u q refl)
header_where_it_rests _ mark prototype owners headers a b inflation h = refl

module _ (w : World) (P : List PlainObject) (t : ℕ) (e : CallContext) (p d : ℕ)
    (within : t < w.shape.threads) (may : MayDisplace (w.known t) e p) (v : Fits w P) where
  abbrev plan : StepPlan
  plan = displace_plan e (w.known t).stage t p d

  abbrev l : ThreadView
  l = known_hit w.shape w.start plan (w.words (Displaced t p)) (w.known t)

  abbrev x : World
  x = with_word_and_known (Displaced t p) d t l w

  -- no lock rests at the free place
  unrested : (o u q : ℕ) → lock w o ≡ OnRecord u q → u ≡ t → q ≡ p → ⊥
  unrested o u q r a b = elim (v.records.first o u q r) [
    | inl c ↦ hold_some o 1 (sym c ∙ (λ j. slice_index (w.known (a j)).holds (b j)) ∙ may.free.empty)
    | inr c ↦ may.unseized o (ap (λ z. (w.known z).stage) (sym a) ∙ c ∙ ap (RecordLocked o) b)
  ]

  -- each other displaced word stays: so does that of a record with a hold word, and that on which a lock rests
  word_at : (u q : ℕ) → ((u ≡ t) × (q ≡ p)) ⊎ (displaced_words x u q ≡ displaced_words w u q)
  word_at u q =
      by_equal u t
      (λ a. by_equal q p (λ b. inl (a, b)) (λ b. inr (ap (λ (c : Bool). cond (c && (u == t)) d (displaced_words w u q)) (ne_eqb q p b))))
      (λ a. inr (ap (λ (c : Bool). cond c d (displaced_words w u q)) (ap (λ (c : Bool). (q == p) && c) (ne_eqb u t a) ∙ and-false (q == p))))

  record_word : (u q o c : ℕ) → slice_index (w.known u).holds q ≡ hold_word o c → displaced_words x u q ≡ displaced_words w u q
  record_word u q o c h = elim (word_at u q) [
    | inl a ↦ absurd (hold_some o c (sym h ∙ (λ j. slice_index (w.known (a.0 j)).holds (a.1 j)) ∙ may.free.empty))
    | inr a ↦ a
  ]

  rest_word : (o u q : ℕ) → lock w o ≡ OnRecord u q → displaced_words x u q ≡ displaced_words w u q
  rest_word o u q r = elim (word_at u q) [ inl a ↦ absurd (unrested o u q r a.0 a.1) | inr a ↦ a ]

  header_at : (o : ℕ) → header_form (read_mark (marks w o)) (marks w o) (displaced_words x) (headers w) (inflations w o) ≡ header w o
  header_at o = header_where_it_rests (read_mark (marks w o)) (marks w o) (prototype_of w o) (owner_words w) (headers w) _ _ (inflations w o) (rest_word o)

  -- the records that were made through the monitor are as many: the free place isn't one
  again_same : (o u : ℕ) → recursion_count o (displaced_words x u) (w.known u).holds ≡ recursion_count o (displaced_words w u) (w.known u).holds
  again_same o u =
      number_same (λ q h. is_deeper o h && (displaced_words x u q == 3)) (λ q h. is_deeper o h && (displaced_words w u q == 3)) 0 (w.known u).holds (λ q.
      elim (word_at u (0 + q)) [
        | inl a ↦
            let n : q ≡ 0 + q = omega arith in
            let empty : slice_index (w.known u).holds q ≡ 0 =
            ap (slice_index (w.known u).holds) (n ∙ a.1) ∙ ap (λ y. slice_index (w.known y).holds p) a.0 ∙ may.free.empty in
            let none : is_deeper o (slice_index (w.known u).holds q) ≡ false = ap (is_deeper o) empty ∙ deeper_none o in
            ap (λ (b : Bool). b && (displaced_words x u (0 + q) == 3)) none ∙ sym (ap (λ (b : Bool). b && (displaced_words w u (0 + q) == 3)) none)
        | inr a ↦ ap (λ y. is_deeper o (slice_index (w.known u).holds q) && (y == 3)) a
      ])

  -- no other thread counts on the word: an inflation that names the record would make its object's lock rest there
  uncounted : (u s : ℕ) → u ≢ t → Stays w (w.known u) (owner_at P) u (Displaced t p) s → w.words (Displaced t p) ≡ s → ⊥
  uncounted u s other (inr a) is = a.2
  uncounted u s other (inl a) found = elim a.1 [
    | inl b ↦ other (sym b)
    | inr b ↦
        let i = b.0 in
        let zero = v.inflating.zero u i b.1 in
        let some = v.inflating.some i.object zero in
        let same : some.0 ≡ u = v.inflating.one some.0 u some.1 i some.2 b.1 some.3 in
        let is : Some some.1 ≡ Some i = sym some.2 ∙ ap (λ z. inflation_in (w.known z).stage) same ∙ b.1 in
        let rests : lock w i.object ≡ OnRecord i.thread i.place =
        ap (λ y. lock_form (read_mark y) (prototype_of w i.object) (owner_words w) (inflations w i.object)) zero
        ∙ ap (λ f. lock_form f (prototype_of w i.object) (owner_words w) (inflations w i.object)) mark_zero ∙ ap record_lock (some.4 ∙ is) in
        unrested i.object i.thread i.place rests b.2.0 b.2.1
  ]

  step : IsStep w t l quietly
  step = record { within = within; mine = refl; others = λ k. refl }

  abbrev z : World
  z = next w t l quietly x.words

  all_after : AllHold (kept_parts w z P)
  all_after seen = seen_next step x.words P (own_seen w P t plan (search (may.runs, uncounted)) v)
  all_after records = record {
    first = v.records.first;
    header = λ o u q r. ap is_neutral (rest_word o u q r) ∙ v.records.header o u q r;
    others = λ o u q z c r h k n. record_word u z o c h ∙ v.records.others o u q z c r h k n;
    seized = v.records.seized;
    grabbed = v.records.grabbed;
  }
  all_after recursions = record {
    first = λ o u q g h. let a = record_word u q o 1 h in elim (v.recursions.first o u q g h) [ inl b ↦ inl (ap is_neutral a ∙ b) | inr b ↦ inr (a ∙ b) ];
    others = λ o u q c g h k. let a = record_word u q o (c + 2) h in elim (v.recursions.others o u q c g h k) [ inl b ↦ inl (a ∙ b) | inr b ↦ inr (a ∙ b) ];
    owned = λ o a u n m b c. v.recursions.owned o a u n m b c ∙ ap (λ y. y + recursions_ahead (w.known u).stage o) (sym (again_same o u));
    waiting = λ o u h. v.recursions.waiting o u h ∙ sym (again_same o u);
    on_record = v.recursions.on_record;
    free = v.recursions.free;
    thread_owns = λ o u h. again_same o u ∙ v.recursions.thread_owns o u h;
  }
  all_after hashes = record {
    stands = v.hashes.stands;
    records = λ o u q h b n.
        let a = record_word u q o 1 h in
        let c = ap hash_in a in
        elim (v.hashes.records o u q h b (sym (ap is_neutral a) ∙ n)) [ inl g ↦ inl (c ∙ g) | inr g ↦ inr (c ∙ g) ];
    on_record = λ o u q r. let c = ap hash_in (rest_word o u q r) in elim (v.hashes.on_record o u q r) [ inl g ↦ inl (c ∙ g) | inr g ↦ inr (c ∙ g) ];
  }
  all_after c = quiet_step step P may.goes_on may.runs v c

  displaced_fits : Fits x P
  displaced_fits =
      step_fits step x.words P (kept_parts w z P) (parts_stand w z P refl (λ u. refl) (λ u. refl) refl refl refl (λ e. λ i. λ o. header_at o i)) all_after

-- the law
pub displaces : (e : CallContext) (p d : ℕ) → KeepsValid (λ w t. MayDisplace (w.known t) e p) (λ w t. displace_plan e (w.known t).stage t p d)
displaces e p d w P t within may valid = inl (displaced_fits w P t e p d within may (fits_running w P t may.runs valid))
