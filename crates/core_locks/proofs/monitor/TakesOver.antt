-- A thread that has an object by its own record stores itself as the owner of the monitor.
use Rattle.core_locks.proofs.Prelude.{◌≡◌, ◌⊎◌, ℕ, ◌+◌, ◌<◌, ◌||◌, Bool, true, List, slice_index, Some, refl, sym, ap, ◌∙◌}
use Rattle.core_locks.proofs.Prelude.{subst, arith, inl, inr, same_Some, read_mark, read_owner, owner_of, ByThread, ByRecord, read_owner-owner_of}
use Rattle.core_locks.proofs.Prelude.{is_thread, PlainObject, Owner, Recursions, StepPlan, Settled, Resumes, Waits, OwnerConverted}
use Rattle.core_locks.proofs.Prelude.{hold_word, is_neutral, monitor_in, inflation_in, bears, recursions_ahead, recursions_lowered, ThreadView}
use Rattle.core_locks.proofs.Prelude.{World, Lock, Open, BiasedTo, OnRecord, OwnedBy, lock, lock_form, marks, displaced_words, owner_words}
use Rattle.core_locks.proofs.Prelude.{prototype_of, inflations, who, holder, hold_count, recursion_count, owner_at, waits_at, notified_at}
use Rattle.core_locks.proofs.Prelude.{owner_lock, IsKeptOrNamed, GoesByMonitor, CallContext, Fits, IsOwner, each_with_known}
use Rattle.core_locks.proofs.Prelude.{fits_running, inflated_form, KeepsValid, MayTakeOver, take_over_plan}
use Rattle.core_locks.proofs.WaitOut.{holder_owns}
use Rattle.core_locks.proofs.MarkChanges.{biases_by_marks, hashes_by_marks}
use Rattle.core_locks.proofs.enter_exit.HoldWays.{saw_inflated}
use Rattle.core_locks.proofs.MarkMeanings.{forms_owned}
use Rattle.core_locks.proofs.Clauses.{turned_parts, seen, forms, owners, biases, records, recursions, hashes, AllHold}
use Rattle.core_locks.proofs.Steps.{turning, IsStep, next, seen_next}
use Rattle.core_locks.proofs.EvenSteps.{IsEven, even_by, even_step, held_even}
use Rattle.core_locks.proofs.OwnSeen.{own_seen, left_with, hit_world}
use Rattle.core_locks.proofs.monitor.MonitorSeen.{uncounted_held}
use Rattle.core_locks.proofs.LockTurns.{LockTurn, records_turn}
use Rattle.core_locks.proofs.monitor.OwnerTurns.{owned_locks, owner_turn, rest_place, rest_deeper, rest_again, owner_turned}

module _ (w : World) (P : List PlainObject) (t : ℕ) (e : CallContext) (o m p : ℕ)
    (within : t < w.shape.threads) (may : MayTakeOver (w.known t) e o m p) (v : Fits w P) where
  abbrev plan : StepPlan
  plan = take_over_plan e t o m

  abbrev l : ThreadView
  l = left_with w t plan

  abbrev x : World
  x = hit_world w t plan

  owned : owner_at P o t ≡ true
  owned = (holder_owns w P t v may.out o may.calm may.holds).0

  mark_names : monitor_in (marks w o) ≡ Some m
  mark_names = saw_inflated w P t o may.runs v m may.inflated

  -- the owner word still names the record
  rests : lock w o ≡ OnRecord t p
  rests =
      let saw = may.owner in
      let word = v.seen.stays t (Owner m) saw.0 saw.1 (inl (may.runs, inr (o, mark_names, ap (λ (b : Bool). b || bears (w.known t).stage o) owned))) in
      ap (λ f. lock_form f (prototype_of w o) (owner_words w) (inflations w o)) (inflated_form (read_mark (marks w o)) m mark_names)
      ∙ ap (λ n. owner_lock (read_owner n)) word ∙ ap owner_lock (saw.2 ∙ ap (λ u. Some (ByRecord u p)) (v.numbered t))

  spelled : read_owner (owner_of (ByThread t)) ≡ Some (ByThread t)
  spelled = let few : t < 32 = omega (arith, within, v.limits.threads) in read_owner-owner_of (ByThread t) few

  abbrev locks : ℕ → Lock
  locks = owned_locks w m (owner_of (ByThread t))

  turn : LockTurn w o locks (OnRecord t p) (OwnedBy t)
  turn = owner_turn w P o m (owner_of (ByThread t)) (OnRecord t p) (OwnedBy t) v mark_names rests (ap owner_lock spelled)

  open turn use {now, back, forth}

  before : IsEven (w.known t).stage
  before = subst IsEven (sym may.calm) (even_by Settled refl)

  after_it : IsEven (OwnerConverted o)
  after_it = even_by (OwnerConverted o) refl

  inflates : inflation_in l.stage ≡ inflation_in (w.known t).stage
  inflates = sym (ap inflation_in may.calm)

  step : IsStep w t l turning
  step = record { within = within; mine = refl; others = λ k. refl }

  abbrev z : World
  z = next w t l turning x.words

  holder_is : who w o ≡ Some t
  holder_is = ap (λ f. holder f (λ u. hold_count o (w.known u).holds)) rests

  -- who has each lock is who had it
  who_same : (i : ℕ) → holder (locks i) (λ u. hold_count i (w.known u).holds) ≡ who w i
  who_same i = elim (now i) [
    | inl a ↦ ap (λ f. holder f (λ u. hold_count i (w.known u).holds)) a.1
        ∙ sym (ap (who w) a.0 ∙ holder_is)
    | inr a ↦ ap (λ f. holder f (λ u. hold_count i (w.known u).holds)) a.1
  ]

  -- a thread that goes by a monitor went by it, or is this one, whose lock rested on its record
  goes : (i u : ℕ) → GoesByMonitor (locks i) (waits_at P i) (notified_at P i) u
      → GoesByMonitor (lock w i) (waits_at P i) (notified_at P i) u ⊎ ((i ≡ o) × (u ≡ t))
  goes i u (inr g) = inl (inr g)
  goes i u (inl g) = elim (now i) [ inl a ↦ (let s : OwnedBy t ≡ OwnedBy u = sym a.1 ∙ g in inr (a.0, cc s)) | inr a ↦ inl (inl (sym a.1 ∙ g)) ]

  -- the word of m is 0, and no record counts
  none : w.words (Recursions m) ≡ 0
  none = v.recursions.on_record o m t p mark_names rests

  same_monitor : (i a : ℕ) → monitor_in (marks w i) ≡ Some a → i ≡ o → a ≡ m
  same_monitor i a n s = same_Some _ _ (sym n ∙ ap (λ j. monitor_in (marks w j)) s ∙ mark_names)

  known : IsKeptOrNamed w (w.known t) m
  known = inr (o, mark_names)

  held : (i : ℕ) → (owner_at P i t || bears (OwnerConverted o) i) ≡ true → (owner_at P i t || bears (w.known t).stage i) ≡ true
  held i = held_even step before after_it (owner_at P) i 0

  all_after : AllHold (turned_parts w z P locks)
  all_after seen = seen_next step x.words P
      (own_seen w P t plan (search (may.runs, inflates, known, held, uncounted_held w P t o m v mark_names holder_is (Owner m) refl)) v)
  all_after forms = forms_owned m (owner_of (ByThread t)) v.forms (subst (IsOwner w.shape) (sym spelled) within)
  all_after owners = let b = even_step step before after_it P may.goes_on may.runs v owners in
      record { same = λ i u. ap (λ f. is_thread f u) (who_same i) ∙ b.same i u; let_go = b.let_go; left = b.left; calls = b.calls }
  all_after biases = biases_by_marks (marks w) (marks w) (lock w) locks _ _ _ _ (λ i b. b) (λ i u g b. forth i (BiasedTo u) g (λ c. cc c)) v.biases
  all_after records = records_turn step v locks o (OwnedBy t) now (λ u q c. cc c)
      (λ u h. same_Some _ _ (sym h ∙ holder_is)) before.seizes after_it.seizes (λ i h. absurd (after_it.grabs i h))
  all_after recursions = record {
    first = λ i u q g h. elim (goes i u g) [
      | inl a ↦ v.recursions.first i u q a h
      | inr a ↦
          let here : q ≡ p = rest_place w P t o p v rests may.calm q ((λ j. slice_index (w.known (sym a.1 j)).holds q) ∙ h ∙ ap (λ j. hold_word j 1) a.0) in
          inl ((λ j. is_neutral (displaced_words w (a.1 j) (here j))) ∙ v.records.header o t p rests)
    ];
    others = λ i u q d g h small. elim (goes i u g) [
      | inl a ↦ v.recursions.others i u q d a h small
      | inr a ↦ inl (ap (λ y. displaced_words w y q) a.1 ∙ rest_deeper w P t o p v rests may.calm q d small
          ((λ j. slice_index (w.known (sym a.1 j)).holds q) ∙ h ∙ ap (λ j. hold_word j (d + 2)) a.0))
    ];
    owned = λ i a u n. each_with_known (λ u y. locks i ≡ OwnedBy u → (y.stage ≡ Waits i → ⊥) → (y.stage ≡ Resumes i → ⊥)
        → w.words (Recursions a) + recursions_lowered y.stage i
        ≡ recursion_count i (displaced_words w u) (w.known u).holds + recursions_ahead y.stage i) t l w.known u
        (λ g b c. elim (now i) [
          | inl s ↦
              let word = ap (λ k. w.words (Recursions k)) (same_monitor i a n s.0) in
              let count = ap (λ j. recursion_count j (displaced_words w t) (w.known t).holds) s.0 ∙ rest_again w P t o p v rests may.calm in
              omega (arith, word, none, count)
          | inr s ↦
              let was = v.recursions.owned i a t n (sym s.1 ∙ g) (before.plain.waits i) (before.plain.resumes i) in
              let up = ap (λ s. recursions_ahead s i) may.calm in
              let down = ap (λ s. recursions_lowered s i) may.calm in
              omega (arith, was, up, down)
        ])
        (λ d g b c. v.recursions.owned i a u n (back i (OwnedBy u) g (λ s. d (let q : t ≡ u = cc s in sym q))) b c);
    waiting = v.recursions.waiting;
    on_record = λ i a u q n g. v.recursions.on_record i a u q n (back i (OnRecord u q) g (λ c. cc c));
    free = λ i a n g. v.recursions.free i a n (back i Open g (λ c. cc c));
    thread_owns = λ i u. each_with_known (λ u y. y.stage ≡ OwnerConverted i → recursion_count i (displaced_words w u) (w.known u).holds ≡ 0) t l w.known u
        (λ h. let s : o ≡ i = cc h in ap (λ j. recursion_count j (displaced_words w t) (w.known t).holds) (sym s)
        ∙ rest_again w P t o p v rests may.calm) (λ d. v.recursions.thread_owns i u);
  }
  all_after hashes = hashes_by_marks (marks w) (marks w) (lock w) locks _ _ _ _ (λ i b. b)
      (λ i u q r. back i (OnRecord u q) r (λ c. cc c)) v.hashes
  all_after c = even_step step before after_it P may.goes_on may.runs v c

  takes_over_fits : Fits x P
  takes_over_fits = owner_turned P step m (owner_of (ByThread t)) inflates all_after

-- the law
pub takes_over_own : (e : CallContext) (o m p : ℕ) → KeepsValid (λ w t. MayTakeOver (w.known t) e o m p) (λ w t. take_over_plan e t o m)
takes_over_own e o m p w P t within may valid = inl (takes_over_fits w P t e o m p within may (fits_running w P t may.runs valid))
