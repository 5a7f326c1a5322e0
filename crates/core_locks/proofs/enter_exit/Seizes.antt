-- A thread exchanges a neutral mark for its place, where it has stored that mark as the displaced word.
use Rattle.plain_monitor.specs.Limits.{most_holds}
use Rattle.core_locks.proofs.Prelude.{◌≡◌, ◌≢◌, ◌⊎◌, ℕ, ◌<◌, ◌≤◌, ◌==◌, ◌||◌, ne_eqb, Bool, true, false, cond, List, slice_index, Option, Some, refl}
use Rattle.core_locks.proofs.Prelude.{sym, ap, ◌∙◌, subst, arith, inl, inr, eqb-true, read_mark, mark_of, Locked, is_thread, is_listed, PlainObject}
use Rattle.core_locks.proofs.Prelude.{Mark, Displaced, StepPlan, Settled, RecordLocked, MonitorAcquired, hold_word, is_neutral, hash_in, monitor_in}
use Rattle.core_locks.proofs.Prelude.{Inflation, inflation_in, bears, hold_words_ahead, word_after, ThreadView, last_seen, World, with_word_and_known}
use Rattle.core_locks.proofs.Prelude.{with_known, Open, BiasedTo, OnRecord, OwnedBy, lock, header, marks, displaced_words, headers, owner_words}
use Rattle.core_locks.proofs.Prelude.{prototype_of, inflations, holder, hold_count, monitor_of, owner_at, hash_at, waits_at, notified_at, CallContext}
use Rattle.core_locks.proofs.Prelude.{world_after, known_hit, seen_before, Fits, IsValid, SeenFit, CompareExchange, IsMark, each_with_known}
use Rattle.core_locks.proofs.Prelude.{with_known_here, part_moves, inflations_stay, fits_running, seen_is_part, Spares, seen_moves, counts_more}
use Rattle.core_locks.proofs.Prelude.{miss_valid, unwaited_fits, MaySeize, KeepsValid, seize_plan, unlisted_count}
use Rattle.core_locks.proofs.MarkMeanings.{forms_marked, IsBare, bare_unnamed, neutral_bare, neutral_some, neutral_lock}
use Rattle.core_locks.proofs.MarkMeanings.{neutral_header, locked_read, locked_bare, locked_some, locked_lock, locked_header}
use Rattle.core_locks.proofs.MarkChanges.{names_same, bias_back, bias_forth, bias_before, zero_back, zero_forth, lock_at, header_same, mark_back}
use Rattle.core_locks.proofs.MarkChanges.{mark_spares, recursions_by_marks, biases_by_marks, classes_by_marks, inflating_by_marks}
use Rattle.core_locks.proofs.LockTurns.{LockTurn, turns_from, owners_taken}
use Rattle.core_locks.proofs.OwnSeen.{hit_moved}
use Rattle.core_locks.proofs.WaitOut.{fails, no_other}
use Rattle.core_locks.proofs.enter_exit.MarkHolds.{standing_names}
use Rattle.core_locks.proofs.Clauses.{turned_parts, parts_turn, seen, forms, holds, owners, biases, records, inflating, recursions, hashes, classes, AllHold}
use Rattle.core_locks.proofs.Steps.{IsAside, aside_by, recursions_stand, stage_back, stage_forth, holds_stand, none_reached, turning}
use Rattle.core_locks.proofs.Steps.{IsPlain, plain_by, IsStep, next, next_is, step_fits, seen_next, plain_step, inflates_stay}

-- the exchange

pub same_place : (a b c d : ℕ) → OnRecord a b ≡ OnRecord c d → (a ≡ c) × (b ≡ d)
same_place a b c d e = (cc e, cc e)

module _ (w : World) (P : List PlainObject) (t : ℕ) (e : CallContext) (o mark p : ℕ) (within : t < w.shape.threads)
    (may : MaySeize (w.known t) e o mark p) (hit : (w.words (Mark o) == mark) ≡ true) (v : Fits w P) where
  abbrev plan : StepPlan
  plan = seize_plan e t o mark p

  -- the new mark, and what the thread knows then
  abbrev m : ℕ
  m = word_after (CompareExchange mark (mark_of (Locked t p))) (w.words (Mark o))

  abbrev l : ThreadView
  l = known_hit w.shape w.start plan (w.words (Mark o)) (w.known t)

  abbrev x : World
  x = with_word_and_known (Mark o) m t l w

  spelled : read_mark m ≡ Some (Locked t p)
  spelled =
      let few : t < 32 = omega (arith, v.limits.threads, within) in
      ap (λ (b : Bool). read_mark (cond b (mark_of (Locked t p)) (w.words (Mark o)))) hit ∙ locked_read t p few may.free.place

  was : marks w o ≡ mark
  was = eqb-true (marks w o) mark hit

  was_neutral : is_neutral (marks w o) ≡ true
  was_neutral = ap is_neutral was ∙ may.neutral

  old : IsBare (marks w o)
  old = neutral_bare (marks w o) was_neutral

  new : IsBare m
  new = locked_bare m t p spelled

  -- the displaced word is what the thread stored there
  stored : displaced_words w t p ≡ marks w o
  stored = v.seen.stays t (Displaced t p) mark
      (ap (λ u. last_seen (Displaced u p) (w.known t).seen) (sym (v.numbered t)) ∙ may.stored) (inl (may.runs, inl refl)) ∙ sym was

  inflates : ◌≡◌ {A = ℕ → Option Inflation} (λ u. inflation_in (w.known u).stage) (λ u. inflation_in (x.known u).stage)
  inflates = part_moves (λ y. inflation_in y.stage) t l w.known (ap inflation_in may.calm)

  inflation : inflations w ≡ inflations x
  inflation = inflations_stay w.shape.threads _ _ inflates

  names : (i : ℕ) → monitor_in (marks w i) ≡ monitor_in (marks x i)
  names = names_same w o m t l (old.unnamed ∙ sym new.unnamed)

  -- a mark that names a monitor is that of another object
  named_else : (i a : ℕ) → monitor_in (marks w i) ≡ Some a → i ≢ o
  named_else i a n s = bare_unnamed (marks w o) a old (ap (λ j. monitor_in (marks w j)) (sym s) ∙ n)

  -- LOCKS. The lock was open and rests on the place now, and each other one stays.
  was_open : lock w o ≡ Open
  was_open = neutral_lock (marks w o) (prototype_of w o) (owner_words w) (inflations w o) was_neutral

  -- nobody had it, so the thread has no hold word of the object
  nobody : (u : ℕ) → (owner_at P o u ≡ false) × (bears (w.known u).stage o ≡ false)
  nobody u = no_other w P o u v (ap (λ f. is_thread (holder f (λ z. hold_count o (w.known z).holds)) u) was_open)

  unheld : hold_count o (w.known t).holds ≡ 0
  unheld =
      let unlisted : (is_listed (waits_at P o) t ≡ true) ⊎ (is_listed (notified_at P o) t ≡ true) → ⊥ =
      λ h. let named = v.waits.inflated o t h in bare_unnamed (marks w o) named.0 old named.1 in
      let waits = unlisted_count (waits_at P o) t (fails _ (λ h. unlisted (inl h))) in
      let called = unlisted_count (notified_at P o) t (fails _ (λ h. unlisted (inr h))) in
      let owner = ap (λ b. cond b (monitor_of P o).count 0) (nobody t).0 in
      omega (arith, v.holds.number t o, ap (λ s. hold_words_ahead s o) may.calm, owner, waits, called)

  lock_now : (i : ℕ) → ((i ≡ o) × (lock x i ≡ OnRecord t p)) ⊎ ((i ≢ o) × (lock x i ≡ lock w i))
  lock_now = lock_at w o m t l inflation (OnRecord t p) (locked_lock m t p (prototype_of w o) (owner_words w) (inflations w o) spelled)

  turn : LockTurn w o (lock x) Open (OnRecord t p)
  turn = turns_from w o (lock x) Open (OnRecord t p) was_open lock_now

  open turn use {back as lock_back, forth as lock_forth}

  lock_inflated : (i a : ℕ) → monitor_in (marks w i) ≡ Some a → lock x i ≡ lock w i
  lock_inflated i a n = elim (lock_now i) [ inl b ↦ absurd (named_else i a n b.0) | inr b ↦ b.1 ]

  -- the header of o is the mark that was there, which stands in the displaced word
  header_is : header w ≡ header x
  header_is =
      header_same w o m t l inflation
      (locked_header m t p (displaced_words w) (headers w) (inflations w o) spelled ∙ ap Some stored
      ∙ sym (neutral_header (marks w o) (displaced_words w) (headers w) (inflations w o) was_neutral))

  -- WHAT WAS SEEN
  spares : Spares (Mark o) m t l w (owner_at P) (owner_at P) (waits_at P) (waits_at P)
  spares =
      mark_spares w o m t l (owner_at P) (owner_at P) (waits_at P) (waits_at P) old
      (neutral_some (marks w o) was_neutral) new v.inflating.zero (λ u i d h. h) (λ u i d h g. g)
      (none_reached w P t l v may.runs refl) v.seen.classed

  -- the thread comes to bear o alone, whose mark names no monitor
  held : (i a : ℕ) → monitor_in (marks x i) ≡ Some a → (owner_at P i t || bears l.stage i) ≡ true → (owner_at P i t || bears (w.known t).stage i) ≡ true
  held i a n h =
      let else_ : (o == i) ≡ false = ne_eqb o i (λ s. named_else i a (names i ∙ n) (sym s)) in
      ap (λ s. owner_at P i t || bears s i) may.calm ∙ sym (ap (λ (c : Bool). owner_at P i t || c) else_) ∙ h

  seen_law : SeenFit x P
  seen_law =
      seen_moves plan (w.words (Mark o)) t l w (owner_at P) (owner_at P) (waits_at P) (waits_at P) (seen_before w.shape (w.known t)) refl
      (counts_more (Mark o) m t l w (owner_at P) (owner_at P) (waits_at P) (waits_at P) (seen_before w.shape (w.known t)) (seen_is_part w.shape (w.known t))
      (mark_back w o m t l (w.known t) l (owner_at P) (owner_at P) t (λ i a n. names i ∙ n) refl refl
      (sym (ap inflation_in may.calm)) (λ a. v.quiet.none_revokes t) refl (λ i h. h) held)
      (λ a h. inl h) (λ a r h. absurd (cc h))
      (λ i h r own n. unwaited_fits w P v i (ap (λ j. monitor_in (marks w j)) (eqb-true i o h) ∙ old.unnamed))
      (λ i h g. g) spares (λ u i h g. g) v.seen)
      spares v.seen

  no_record : (q d : ℕ) → d ≤ 64 → slice_index (w.known t).holds q ≡ hold_word o d → ⊥
  no_record q d small h = omega (arith, standing_names w P v t q o d small h, unheld)

  plain_before : IsPlain (w.known t).stage
  plain_before = subst IsPlain (sym may.calm) (plain_by Settled refl)

  plain_now : IsPlain (RecordLocked o p)
  plain_now = plain_by (RecordLocked o p) refl

  step : IsStep w t l turning
  step = record { within = within; mine = refl; others = λ k. refl }

  abbrev z : World
  z = next w t l turning x.words

  all_after : AllHold (turned_parts w z P (lock x))
  all_after seen = seen_next step x.words P seen_law
  all_after forms = forms_marked o m v.forms (subst (IsMark w.shape) (sym spelled) within)
  all_after holds = holds_stand step P (λ i. sym (ap (λ s. hold_words_ahead s i) may.calm)) v
  all_after owners = owners_taken step v (lock x) o (OnRecord t p) lock_now may.calm nobody refl (λ i. refl) refl (λ i c. cc c) (λ i q c. cc c)
  all_after biases = biases_by_marks (marks w) (marks x) (lock w) (lock x) _ _ _ _
      (λ i b. (bias_back w o m t l new.unbiased i b).1) (λ i u g b. lock_forth i (BiasedTo u) g (λ c. cc c)) v.biases
  -- the lock rests on the free place, which the thread's stage says; its displaced word is neutral, and it has no other record of o
  all_after records = record {
    first = λ i u q r. elim (lock_now i) [
      | inl a ↦ let s = same_place t p u q (sym a.1 ∙ r) in inr (ap (λ z. (with_known t l w.known z).stage) (sym s.0)
          ∙ ap (λ (k : ThreadView). k.stage) (with_known_here t l w.known) ∙ (λ j. RecordLocked (sym a.0 j) (s.1 j)))
      | inr a ↦ elim (v.records.first i u q (sym a.1 ∙ r)) [
        | inl b ↦ inl b
        | inr b ↦ inr (stage_forth step (RecordLocked i q) u (λ c. cc (sym may.calm ∙ c)) b)
      ]
    ];
    header = λ i u q r. elim (lock_now i) [
      | inl a ↦ let s = same_place t p u q (sym a.1 ∙ r) in (λ j. is_neutral (displaced_words w (sym s.0 j) (sym s.1 j))) ∙ ap is_neutral stored ∙ was_neutral
      | inr a ↦ v.records.header i u q (sym a.1 ∙ r)
    ];
    others = λ i u q z d r h small other. elim (lock_now i) [
      | inl a ↦ let s = same_place t p u q (sym a.1 ∙ r) in
          absurd (no_record z d small (ap (λ y. slice_index (w.known y).holds z) s.0 ∙ h ∙ ap (λ y. hold_word y d) a.0))
      | inr a ↦ v.records.others i u q z d (sym a.1 ∙ r) h small other
    ];
    seized = λ i u q. each_with_known (λ u y. y.stage ≡ RecordLocked i q
        → (lock x i ≡ OnRecord u q) × (slice_index (w.known u).holds q ≡ 0) × (q < most_holds) × (hold_count i (w.known u).holds ≡ 0)) t l w.known u
        (λ s.
        let object : o ≡ i = cc s in
        let place : p ≡ q = cc s in
        let lock_is : lock x o ≡ OnRecord t p = elim (lock_now o) [ inl a ↦ a.1 | inr a ↦ absurd (a.0 refl) ] in
        let at : (lock x o ≡ OnRecord t p) × (slice_index (w.known t).holds p ≡ 0) × (p < most_holds)
        × (hold_count o (w.known t).holds ≡ 0) = (lock_is, may.free.empty, may.free.place, unheld) in
        subst (λ (z : ℕ × ℕ). (lock x z.0 ≡ OnRecord t z.1) × (slice_index (w.known t).holds z.1 ≡ 0)
        × (z.1 < most_holds) × (hold_count z.0 (w.known t).holds ≡ 0))
        (λ j. (object j, place j)) at)
        (λ d s. let b = v.records.seized i u q s in (lock_forth i (OnRecord u q) b.0 (λ c. cc c), b.1, b.2, b.3));
    grabbed = λ i u s. let b = v.records.grabbed i u (stage_back step (MonitorAcquired i) u (λ c. cc c) s).1 in (lock_forth i (OwnedBy u) b.0 (λ c. cc c), b.1);
  }
  all_after inflating = inflating_by_marks (marks w) (marks x) _ _ (zero_back w o m t l (locked_some m t p spelled))
      (zero_forth w o m t l (neutral_some (marks w o) was_neutral)) v.inflating
  all_after recursions = recursions_stand step (subst IsAside (sym may.calm) (aside_by Settled refl)) (aside_by (RecordLocked o p) refl)
      (recursions_by_marks (marks w) (marks x) names _ (lock w) (lock x) _ _ _ _ _ _
      (λ i u g. lock_back i (OwnedBy u) g (λ c. cc c)) lock_inflated v.recursions)
  all_after hashes = record {
    stands = v.hashes.stands;
    records = λ i u q h b. v.hashes.records i u q h (bias_before w o m t l old.unbiased i b);
    on_record = λ i u q r. elim (lock_now i) [
      | inl a ↦
          let s = same_place t p u q (sym a.1 ∙ r) in
          let plain : hash_in (marks w o) ≡ hash_at P o =
          v.hashes.stands o (marks w o) (neutral_header (marks w o) (displaced_words w) (headers w) (inflations w o) was_neutral) in
          inr ((λ j. hash_in (displaced_words w (sym s.0 j) (sym s.1 j))) ∙ ap hash_in stored ∙ plain ∙ ap (hash_at P) (sym a.0))
      | inr a ↦ v.hashes.on_record i u q (sym a.1 ∙ r)
    ];
  }
  all_after classes = classes_by_marks w.biasing _ _ _ (marks w) (marks x) _ _ (bias_forth w o m t l new.unbiased) v.classes
  all_after c = plain_step step P may.goes_on plain_before plain_now may.runs v c

  seized_fits : Fits x P
  seized_fits =
      step_fits step x.words P (turned_parts w z P (lock x))
      (parts_turn w z P (lock x) refl (λ u. refl) (inflates_stay step (sym (ap inflation_in may.calm))) (λ i. lock (sym (next_is step x.words) i))
      ((λ i. header (sym (next_is step x.words) i)) ∙ sym header_is) (λ i. λ o. sym (names o) i)) all_after

-- The law: where the exchange hits, every clause holds before, since the thread runs, and so after it; where it misses, it is a look.
pub seizes : (e : CallContext) (o mark p : ℕ) → KeepsValid (λ w t. MaySeize (w.known t) e o mark p) (λ w t. seize_plan e t o mark p)
seizes e o mark p w P t within may valid = by_test (w.words (Mark o) == mark) refl
  where
    by_test : (b : Bool) → (w.words (Mark o) == mark) ≡ b → IsValid (world_after (seize_plan e t o mark p) t w) P
    by_test true hit = inl (hit_moved w P t (seize_plan e t o mark p) hit (seized_fits w P t e o mark p within may hit (fits_running w P t may.runs valid)))
    by_test false missed =
        miss_valid w P t (seize_plan e t o mark p) within
        (record {
          missed = missed;
          may = record { outside = λ stopped. let runs = may.runs in absurd (cc (stopped, runs)); found = λ r a h. absurd (cc h) };
        })
        valid
