-- A thread stores a new hold word of an object in an empty place.
use Rattle.core_locks.proofs.Prelude.{◌≡◌, ◌≢◌, ◌⊎◌, ℕ, ◌+◌, ◌<◌, ◌≤◌, ◌==◌, ◌&&◌, ◌||◌, nat_lt, eq-eqb, ne_eqb, Bool, true, false, List}
use Rattle.core_locks.proofs.Prelude.{slice_index, slice_set, Some, None, refl, sym, ap, ◌∙◌, arith, inl, inr, or-true, nat_tests, is_thread}
use Rattle.core_locks.proofs.Prelude.{is_listed, PlainObject, Path, Hold, StepPlan, Settled, RecordLocked, MonitorAcquired, Enters}
use Rattle.core_locks.proofs.Prelude.{RecursionsRaised, hold_word, is_biased, is_neutral, hash_in, inflation_in, bears, hold_words_ahead}
use Rattle.core_locks.proofs.Prelude.{recursions_ahead, recursions_lowered, one_if, with_word, ThreadView, World, with_known, BiasedTo}
use Rattle.core_locks.proofs.Prelude.{OnRecord, OwnedBy, lock, marks, displaced_words, owner_words, prototype_of, inflations, who, holder}
use Rattle.core_locks.proofs.Prelude.{hold_count, recursion_count, owner_at, hash_at, waits_at, notified_at, GoesByMonitor, CallContext}
use Rattle.core_locks.proofs.Prelude.{world_after, known_hit, Fits, by_equal, each_with_known, header_stays, thread_is, fits_running, KeepsValid}
use Rattle.core_locks.proofs.Prelude.{MayHold, hold_plan, Option, MarkForm, Anonymous, Biased, BiasAcquired, cond, subst, with_known_here}
use Rattle.core_locks.proofs.Prelude.{monitor_in, monitor_form, is_biased_form, IsHold, read_hold, read_hold-hold_of, Holds}
use Rattle.mark_word.specs.Mark.{read_mark}
use Rattle.core_locks.proofs.WaitOut.{out_unwaiting, out_uncalled}
use Rattle.std.proofs.lemmas.List.{get_or-set_same, length-set}
use Rattle.std.proofs.Math.Bool.{and-false, and-true}
use Rattle.core_locks.proofs.enter_exit.HoldCounts.{again_put}
use Rattle.core_locks.proofs.enter_exit.HoldSets.{biased_leans, IsPut, hold_back, hold_forth, named_new, times_new, word_own, word_held, word_else, holder_told}
use Rattle.core_locks.proofs.enter_exit.HoldWays.{Way, BySeizing, ByHolding, Leaned, ByGrabbing, ByRaising, ByLeaning, at_stage, way_bears, way_of}
use Rattle.core_locks.proofs.Clauses.{kept_parts, parts_stand, seen, forms, holds, owners, biases, records, recursions, hashes, AllHold}
use Rattle.core_locks.proofs.Steps.{owners_move, holding, IsPlain, plain_by, IsStep, next, step_fits, seen_next, plain_step, inflates_stay}
use Rattle.core_locks.proofs.ByThread.{biases_told, hashes_told, holds_told, records_told, recursions_told}
use Rattle.core_locks.proofs.OwnSeen.{hold_uncounted, own_seen}

-- the displaced word 3 is no header
three_unneutral : is_neutral 3 ≡ false
unfolding read_mark
three_unneutral = refl

module _ (w : World) (P : List PlainObject) (t : ℕ) (e : CallContext) (o d p : ℕ) (path : Path)
    (within : t < w.shape.threads) (may : MayHold w.shape (w.known t) e o d p) (v : Fits w P) (way : Way w P t o p) where
  abbrev plan : StepPlan
  plan = hold_plan e t o d p path

  abbrev l : ThreadView
  l = known_hit w.shape w.start plan (w.words (Hold t p)) (w.known t)

  abbrev old : List ℕ
  old = (w.known t).holds

  abbrev new : List ℕ
  new = slice_set (w.known t).holds p (hold_word o d)

  put : IsPut old o d p
  put = record {
    within = omega (arith, v.holds.places t, may.free.place);
    few = omega (arith, may.object.within, v.limits.objects);
    some = omega (arith, may.depth);
    small = may.small;
    empty = may.free.empty;
  }

  -- where the object doesn't lean on it, it has the lock
  holder_is : (owner_at P o t || bears (w.known t).stage o) ≡ true → who w o ≡ Some t
  holder_is h = thread_is (who w o) t (v.owners.same o t ∙ h)

  plain_before : IsPlain (w.known t).stage
  plain_before = at_stage IsPlain w P t o p way (plain_by (RecordLocked o p) refl) (plain_by Settled refl)
      (plain_by (MonitorAcquired o) refl) (plain_by (RecursionsRaised o) refl) (plain_by (BiasAcquired o) refl)

  -- the thread stands on no list
  unlisted : (i : ℕ) → (is_listed (waits_at P i) t ≡ true) ⊎ (is_listed (notified_at P i) t ≡ true) → ⊥
  unlisted i (inl a) = let none = out_unwaiting w P t v may.out i in absurd (cc (none, a))
  unlisted i (inr a) = let none = out_uncalled w P t v may.out i (plain_before.resumes i) in absurd (cc (none, a))

  -- a first hold has depth 1, and a further one a depth above
  first_depth : hold_count o old ≡ 0 → d ≡ 1
  first_depth none = omega (arith, may.depth, none)

  further_depth : 1 ≤ hold_count o old → 2 ≤ d
  further_depth more = omega (arith, may.depth, more)

  -- recursions count no record of depth 1
  first_uncounted : (i : ℕ) → hold_count o old ≡ 0 → one_if (((o == i) && nat_lt 1 d) && (displaced_words w t p == 3)) ≡ 0
  first_uncounted i none =
      let shallow : nat_lt 1 d ≡ false = (let n = first_depth none in grind (arith, nat_tests)) in
      ap (λ (b : Bool). one_if (((o == i) && b) && (displaced_words w t p == 3))) shallow
      ∙ ap (λ (b : Bool). one_if (b && (displaced_words w t p == 3))) (and-false (o == i))

  -- the new record is one that recursions count exactly where the word was raised before
  counted_before : (i : ℕ) → lock w i ≡ OwnedBy t → Way w P t o p
      → one_if (((o == i) && nat_lt 1 d) && (displaced_words w t p == 3)) ≡ recursions_ahead (w.known t).stage i
  counted_before i g (BySeizing a) = first_uncounted i a.none ∙ sym (ap (λ s. recursions_ahead s i) a.stage)
  counted_before i g (ByHolding a) =
      ap (λ n. one_if (((o == i) && nat_lt 1 d) && (n == 3))) a.zero ∙ ap one_if (and-false ((o == i) && nat_lt 1 d))
      ∙ sym (ap (λ s. recursions_ahead s i) a.stage)
  counted_before i g (ByGrabbing a) = first_uncounted i a.none ∙ sym (ap (λ s. recursions_ahead s i) a.stage)
  counted_before i g (ByLeaning a) =
      by_equal o i
      (λ s. let same : BiasedTo t ≡ OwnedBy t = sym a.leans ∙ ap (lock w) s ∙ g in absurd (cc same))
      (λ n. ap (λ (b : Bool). one_if ((b && nat_lt 1 d) && (displaced_words w t p == 3))) (ne_eqb o i n)
      ∙ (elim a.stage [ inl b ↦ sym (ap (λ s. recursions_ahead s i) b) | inr b ↦ sym (ap (λ s. recursions_ahead s i) b) ]))
  counted_before i g (ByRaising a) =
      let deep : nat_lt 1 d ≡ true = (let n = further_depth a.some in grind (arith, nat_tests)) in
      ap (λ n. one_if (((o == i) && nat_lt 1 d) && (n == 3))) a.three ∙ ap (λ (b : Bool). one_if (((o == i) && b) && true)) deep
      ∙ ap one_if (and-true ((o == i) && true) ∙ and-true (o == i)) ∙ sym (ap (λ s. recursions_ahead s i) a.stage)

  -- so with its record the thread is ahead no more, where it has the lock through the monitor
  again_new : (i : ℕ) → lock w i ≡ OwnedBy t
      → recursion_count i (displaced_words w t) new ≡ recursion_count i (displaced_words w t) old + recursions_ahead (w.known t).stage i
  again_new i g = again_put old p o d put.within put.few put.some put.small put.empty i (displaced_words w t)
      ∙ ap (λ n. recursion_count i (displaced_words w t) old + n) (counted_before i g way)

  -- the thread bears another object exactly where it did before
  bears_else : (i : ℕ) → i ≢ o → bears (w.known t).stage i ≡ bears (Enters o p path) i
  bears_else i n = let other = ne_eqb o i (λ q. n (sym q)) in at_stage (λ s. bears s i ≡ false) w P t o p way other refl other refl refl ∙ sym other

  named_now : hold_count o new ≢ 0
  named_now z = let one = ap one_if (eq-eqb o o refl) in omega (arith, named_new old o d p put o, one, z)

  -- the thread has the lock now
  holder_now : holder (lock w o) (λ z. hold_count o (with_known t l w.known z).holds) ≡ Some t
  holder_now = elim (way_bears w P t o p way) [
    | inl a ↦
        let some : hold_count o (with_known t l w.known t).holds ≢ 0 =
        λ z. named_now (ap (λ (k : ThreadView). hold_count o k.holds) (sym (with_known_here t l w.known)) ∙ z) in
        ap (λ f. holder f (λ z. hold_count o (with_known t l w.known z).holds)) a.leans
        ∙ ap (λ (b : Bool). cond b None (Some t)) (ne_eqb (hold_count o (with_known t l w.known t).holds) 0 some)
    | inr a ↦ holder_told (lock w o) o t l w.known (inr (holder_is a, named_now)) ∙ holder_is a
  ]

  -- and nobody else had it
  no_other : (u : ℕ) → u ≢ t → is_thread (who w o) u ≡ false
  no_other u n = elim (way_bears w P t o p way) [
    | inl a ↦ ap (λ f. is_thread (holder f (λ z. hold_count o (w.known z).holds)) u) a.leans ∙ leaning (hold_count o (w.known t).holds == 0)
    | inr a ↦ ap (λ f. is_thread f u) (holder_is a) ∙ ne_eqb t u (λ q. n (sym q))
  ]
    where
      leaning : (b : Bool) → is_thread (cond b None (Some t)) u ≡ false
      leaning true = refl
      leaning false = ne_eqb t u (λ q. n (sym q))

  -- who has the lock of another object has it still
  holder_else : (i : ℕ) → i ≢ o → holder (lock w i) (λ z. hold_count i (with_known t l w.known z).holds) ≡ who w i
  holder_else i n = holder_told (lock w i) i t l w.known
      (inl (let other = ap one_if (ne_eqb o i (λ q. n (sym q))) in omega (arith, named_new old o d p put i, other)))

  owners_same : (i u : ℕ) → is_thread (holder (lock w i) (λ z. hold_count i (with_known t l w.known z).holds)) u
      ≡ (owner_at P i u || bears (with_known t l w.known u).stage i)
  owners_same i u =
      by_equal i o
      (λ s. subst (λ j. is_thread (holder (lock w j) (λ z. hold_count j (with_known t l w.known z).holds)) u
      ≡ (owner_at P j u || bears (with_known t l w.known u).stage j)) (sym s)
      (ap (λ f. is_thread f u) holder_now ∙ each_with_known (λ u y. (t == u) ≡ (owner_at P o u || bears y.stage o)) t l w.known u
      (eq-eqb t t refl ∙ sym (ap (λ (b : Bool). owner_at P o t || b) (eq-eqb o o refl) ∙ or-true (owner_at P o t)))
      (λ n. ne_eqb t u (λ q. n (sym q)) ∙ sym (no_other u n) ∙ v.owners.same o u)))
      (λ n. ap (λ f. is_thread f u) (holder_else i n)
      ∙ each_with_known (λ u y. is_thread (who w i) u ≡ (owner_at P i u || bears y.stage i)) t l w.known u
      (v.owners.same i t ∙ ap (λ (b : Bool). owner_at P i t || b) (bears_else i n)) (λ d. v.owners.same i u))

  -- an object with the bias pattern whose hold the thread takes is biased to it
  leans_here : is_biased (marks w o) ≡ true → lock w o ≡ BiasedTo t
  leans_here h = elim (way_bears w P t o p way) [
    | inl a ↦ a.leans
    | inr a ↦ biased_leans (read_mark (marks w o)) (prototype_of w o) (owner_words w) (inflations w o) (λ z. hold_count o (w.known z).holds) t h (holder_is a)
  ]

  -- an object with the bias pattern that isn't biased to the thread isn't the one that it takes
  unheld_law : (i : ℕ) → is_biased (marks w i) ≡ true → (lock w i ≡ BiasedTo t → ⊥) → hold_count i new ≡ 0
  unheld_law i h n =
      by_equal i o
      (λ s. absurd (n (ap (lock w) s ∙ leans_here (ap (λ j. is_biased (marks w j)) (sym s) ∙ h))))
      (λ s. let was = v.biases.unheld i t h n in let other = ap one_if (ne_eqb o i (λ q. s (sym q))) in omega (arith, named_new old o d p put i, was, other))

  -- where the thread seized the mark, the record on which the lock rests has its hold word now
  seized_first : (i q : ℕ) → (w.known t).stage ≡ RecordLocked i q → Way w P t o p → slice_index new q ≡ hold_word i 1
  seized_first i q h (BySeizing a) =
      let same : RecordLocked i q ≡ RecordLocked o p = sym h ∙ a.stage in
      let object : i ≡ o = cc same in
      let place : q ≡ p = cc same in
      ap (slice_index new) place ∙ get_or-set_same old p (hold_word o d) 0 put.within ∙ (λ j. hold_word (sym object j) (first_depth a.none j))
  seized_first i q h (ByHolding a) = absurd (cc (h, a.stage))
  seized_first i q h (ByGrabbing a) = absurd (cc (h, a.stage))
  seized_first i q h (ByRaising a) = absurd (cc (h, a.stage))
  seized_first i q h (ByLeaning a) = elim a.stage [ inl b ↦ absurd (cc (h, b)) | inr b ↦ absurd (cc (h, b)) ]

  -- the new record, besides the one on which the lock rests, has the displaced word 0
  rests_other : (i q r : ℕ) → r ≡ p → o ≡ i → lock w i ≡ OnRecord t q → r ≢ q → Way w P t o p → displaced_words w t r ≡ 0
  rests_other i q r place object g n (BySeizing a) =
      let same : OnRecord t p ≡ OnRecord t q = sym a.rests ∙ ap (lock w) object ∙ g in
      let here : p ≡ q = cc same in
      absurd (n (place ∙ here))
  rests_other i q r place object g n (ByHolding a) = ap (displaced_words w t) place ∙ a.zero
  rests_other i q r place object g n (ByGrabbing a) = let same : OwnedBy t ≡ OnRecord t q = sym a.thread_owns ∙ ap (lock w) object ∙ g in absurd (cc same)
  rests_other i q r place object g n (ByRaising a) = let same : OwnedBy t ≡ OnRecord t q = sym a.thread_owns ∙ ap (lock w) object ∙ g in absurd (cc same)
  rests_other i q r place object g n (ByLeaning a) = let same : BiasedTo t ≡ OnRecord t q = sym a.leans ∙ ap (lock w) object ∙ g in absurd (cc same)

  -- an object that leans on the thread isn't one that goes by the monitor
  leaning_gone : (i : ℕ) → o ≡ i → Leaned w t o → GoesByMonitor (lock w i) (waits_at P i) (notified_at P i) t → ⊥
  leaning_gone i object a (inl g) = let same : BiasedTo t ≡ OwnedBy t = sym a.leans ∙ ap (lock w) object ∙ g in absurd (cc same)
  leaning_gone i object a (inr g) = unlisted i g

  -- a new record of depth 1 by the monitor has the displaced word 3
  goes_first : (i q : ℕ) → q ≡ p → o ≡ i → d ≡ 1 → GoesByMonitor (lock w i) (waits_at P i) (notified_at P i) t
      → Way w P t o p → (is_neutral (displaced_words w t q) ≡ true) ⊎ (displaced_words w t q ≡ 3)
  goes_first i q place object depth (inl g) (BySeizing a) = let same : OnRecord t p ≡ OwnedBy t = sym a.rests ∙ ap (lock w) object ∙ g in absurd (cc same)
  goes_first i q place object depth (inr g) (BySeizing a) = absurd (unlisted i g)
  goes_first i q place object depth g (ByLeaning a) = absurd (leaning_gone i object a g)
  goes_first i q place object depth g (ByHolding a) = absurd (omega (arith, depth, further_depth a.some))
  goes_first i q place object depth g (ByGrabbing a) = inr (ap (displaced_words w t) place ∙ a.three)
  goes_first i q place object depth g (ByRaising a) = absurd (omega (arith, depth, further_depth a.some))

  -- and one of a greater depth 0 or 3
  goes_other : (i q k : ℕ) → q ≡ p → o ≡ i → d ≡ k + 2 → GoesByMonitor (lock w i) (waits_at P i) (notified_at P i) t
      → Way w P t o p → (displaced_words w t q ≡ 0) ⊎ (displaced_words w t q ≡ 3)
  goes_other i q k place object depth g (BySeizing a) = absurd (omega (arith, depth, first_depth a.none))
  goes_other i q k place object depth g (ByHolding a) = inl (ap (displaced_words w t) place ∙ a.zero)
  goes_other i q k place object depth g (ByGrabbing a) = absurd (omega (arith, depth, first_depth a.none))
  goes_other i q k place object depth g (ByRaising a) = inr (ap (displaced_words w t) place ∙ a.three)
  goes_other i q k place object depth g (ByLeaning a) = absurd (leaning_gone i object a g)

  -- the header of a new record of depth 1 is the one on which the lock rests
  new_header : (i q : ℕ) → q ≡ p → o ≡ i → d ≡ 1 → is_biased (marks w i) ≡ false → is_neutral (displaced_words w t q) ≡ true
      → Way w P t o p → (hash_in (displaced_words w t q) ≡ 0) ⊎ (hash_in (displaced_words w t q) ≡ hash_at P i)
  new_header i q place object depth b n (BySeizing a) = v.hashes.on_record i t q (ap (lock w) (sym object) ∙ a.rests ∙ ap (OnRecord t) (sym place))
  new_header i q place object depth b n (ByHolding a) = absurd (omega (arith, depth, further_depth a.some))
  new_header i q place object depth b n (ByGrabbing a) =
      let three = ap (λ q. is_neutral (displaced_words w t q)) place ∙ ap is_neutral a.three ∙ three_unneutral in absurd (cc (three, n))
  new_header i q place object depth b n (ByRaising a) = absurd (omega (arith, depth, further_depth a.some))
  new_header i q place object depth b n (ByLeaning a) = let yes = ap (λ j. is_biased (marks w j)) (sym object) ∙ a.biased in absurd (cc (yes, b))

  inflates : inflation_in (Enters o p path) ≡ inflation_in (w.known t).stage
  inflates = at_stage (λ s. None ≡ inflation_in s) w P t o p way refl refl refl refl refl

  plain_now : IsPlain (Enters o p path)
  plain_now = plain_by (Enters o p path) refl

  -- what it bears through a monitor it bore before: a mark with the bias pattern names none
  held : (i a : ℕ) → monitor_in (marks w i) ≡ Some a → (owner_at P i t || bears (Enters o p path) i) ≡ true
      → (owner_at P i t || bears (w.known t).stage i) ≡ true
  held i m names h =
      by_equal i o
      (λ s. elim (way_bears w P t o p way) [
        | inl a ↦ let none = biased_unnamed (read_mark (marks w o)) a.biased in
            let some = ap (λ j. monitor_in (marks w j)) (sym s) ∙ names in absurd (cc (none, some))
        | inr a ↦ ap (λ j. owner_at P j t || bears (w.known t).stage j) s ∙ a
      ])
      (λ n. ap (λ (b : Bool). owner_at P i t || b) (bears_else i n) ∙ h)
    where
      biased_unnamed : (f : Option MarkForm) → is_biased_form f ≡ true → monitor_form f ≡ None
      biased_unnamed (Some (Anonymous epoch age)) e = refl
      biased_unnamed (Some (Biased thread epoch age)) e = refl
      biased_unnamed _ e = absurd (cc e)

  word_form : IsHold w.shape (read_hold (hold_word o d))
  word_form = subst (IsHold w.shape) (sym (read_hold-hold_of (Holds o d) (put.few, put.some, put.small))) may.object.within

  step : IsStep w t l holding
  step = record { within = within; mine = refl; others = λ k. refl }

  abbrev x : World
  x = next w t l holding (with_word (Hold t p) (hold_word o d) w.words)

  all_after : AllHold (kept_parts w x P)
  all_after seen = seen_next step x.words P (own_seen w P t plan (search (may.runs, inflates, held, hold_uncounted w P t p)) v)
  all_after forms = search (word_held w.words t p (hold_word o d) w.shape word_form v.forms.holds, v.forms)
  all_after holds = holds_told t l w.known hold_words_ahead (word_else w.words t p (hold_word o d)) (λ u i d. refl) (record {
    stored = word_own w.words t p (hold_word o d) old put.within (v.holds.stored t);
    places = length-set old p (hold_word o d) ∙ v.holds.places t;
    number = λ i. let before = at_stage (λ s. hold_words_ahead s i ≡ 0) w P t o p way refl refl refl refl refl in
        omega (arith, named_new old o d p put i, v.holds.number t i, before);
    each = times_new old o d p put may.depth (v.holds.each t);
  }) v.holds
  all_after owners = owners_move step (λ i c. cc c) (λ i q c. cc c) (λ i c. absurd (cc c)) owners_same v
  all_after biases = biases_told t l w.known unheld_law v.biases
  all_after records = records_told t l w.known (record {
    first = λ i q h. inl (elim (v.records.first i t q h) [ inl a ↦ hold_forth old o d p put q i 1 a | inr a ↦ seized_first i q a way ]);
    header = λ i. v.records.header i t;
    others = λ i q r k g h small n. elim (hold_back old o d p put r i k small h) [
      | inl a ↦ rests_other i q r a.0 a.1 g n way
      | inr a ↦ v.records.others i t q r k g a small n
    ];
    seized = λ i q h. absurd (cc h);
    grabbed = λ i h. absurd (cc h);
  }) v.records
  all_after recursions = recursions_told t l w.known (record {
    first = λ i q g h. elim (hold_back old o d p put q i 1 (omega arith) h) [ inl a ↦ goes_first i q a.0 a.1 a.2 g way | inr a ↦ v.recursions.first i t q g a ];
    others = λ i q k g h small. elim (hold_back old o d p put q i (k + 2) (omega (arith, small)) h) [
      | inl a ↦ goes_other i q k a.0 a.1 a.2 g way
      | inr a ↦ v.recursions.others i t q k g a small
    ];
    owned = λ i m g h a b.
        let after_none = at_stage (λ s. recursions_lowered s i ≡ 0) w P t o p way refl refl refl refl refl in
        omega (arith, v.recursions.owned i m t g h (plain_before.waits i) (plain_before.resumes i), again_new i h, after_none);
    waiting = λ i h. absurd (unlisted i h);
    thread_owns = λ i h. absurd (cc h);
  }) v.recursions
  all_after hashes = hashes_told t l w.known
      (λ i q h b n. elim (hold_back old o d p put q i 1 (omega arith) h)
      [ inl a ↦ new_header i q a.0 a.1 a.2 b n way | inr a ↦ v.hashes.records i t q a b n ]) v.hashes
  all_after c = plain_step step P may.goes_on plain_before plain_now may.runs v c

  stored_fits : Fits (world_after plan t w) P
  stored_fits =
      step_fits step x.words P (kept_parts w x P)
      (parts_stand w x P refl (λ u. refl) (inflates_stay step inflates) refl refl refl (λ e. header_stays x w refl refl refl e)) all_after

-- so the world stays valid
pub stored_valid : (e : CallContext) (o d p : ℕ) (path : Path) → KeepsValid (λ w t. MayHold w.shape (w.known t) e o d p) (λ w t. hold_plan e t o d p path)
stored_valid e o d p path w P t within may valid =
    let v = fits_running w P t may.runs valid in
    inl (stored_fits w P t e o d p path within may v (way_of w P t e o d p within may v))
