-- A thread that has an object by its monitor stores the recursions: one more before it stores a hold word, one less before it clears one, or 0.
use Rattle.core_locks.proofs.Prelude.{◌≡◌, ◌≢◌, ◌⊎◌, ℕ, ◌+◌, ◌<◌, ◌≤◌, ◌||◌, eq-eqb, ne_eqb, Bool, true, cond, List, Some, None, refl, sym, ap, ◌∙◌}
use Rattle.core_locks.proofs.Prelude.{subst, arith, inl, inr, same_Some, PlainObject, Recursions, StepPlan, Stage, Settled, Resumes}
use Rattle.core_locks.proofs.Prelude.{Waits, OwnerConverted, RecursionsRaised, RecursionsLowered, monitor_in, inflation_in, bears, hold_words_ahead}
use Rattle.core_locks.proofs.Prelude.{recursions_ahead, recursions_lowered, one_if, ThreadView, last_seen, World, Open, OnRecord, OwnedBy, lock}
use Rattle.core_locks.proofs.Prelude.{marks, displaced_words, who, holder, hold_count, recursion_count, owner_at, IsKeptOrNamed, CallContext}
use Rattle.core_locks.proofs.Prelude.{with_stage, store, Fits, by_equal, each_with_known, header_stays, fits_running, KeepsValid, MayCount}
use Rattle.core_locks.proofs.Prelude.{MayRaiseCount, MayLowerCount, MayResetCount, raise_count_plan, lower_count_plan, reset_count_plan}
use Rattle.std.specs.Prelude.{◌-◌}
use Rattle.core_locks.proofs.WaitOut.{even_holder_owns}
use Rattle.core_locks.proofs.enter_exit.HoldWays.{saw_inflated, saw_thread_owns}
use Rattle.core_locks.proofs.Clauses.{kept_parts, parts_stand, seen, recursions, AllHold}
use Rattle.core_locks.proofs.Steps.{turning, IsStep, next, step_fits, seen_next, inflates_stay}
use Rattle.core_locks.proofs.EvenSteps.{IsEven, even_by, even_step, held_even}
use Rattle.core_locks.proofs.OwnSeen.{own_seen, left_with, hit_world}
use Rattle.core_locks.proofs.monitor.MonitorSeen.{uncounted_held}

-- where the thread stands before the store: Settled, or OwnerConverted with o
abbrev pub AtCount : ThreadView → ℕ → Type 0
AtCount k o = (k.stage ≡ Settled) ⊎ (k.stage ≡ OwnerConverted o)

at_count : (F : Stage → Type 0) (k : ThreadView) (o : ℕ) → AtCount k o → F Settled → F (OwnerConverted o) → F k.stage
at_count F k o (inl a) f g = subst F (sym a) f
at_count F k o (inr a) f g = subst F (sym a) g

module _ (w : World) (P : List PlainObject) (t : ℕ) (e : CallContext) (o m : ℕ) (within : t < w.shape.threads)
    (may : MayCount (w.known t) e o m) (at : AtCount (w.known t) o) (v : Fits w P) where
  pub owned : owner_at P o t ≡ true
  owned = (even_holder_owns w P t v may.out o (at_count (λ s. s ≡ Resumes o → ⊥) (w.known t) o at (λ c. cc c) (λ c. cc c))
      (at_count (λ s. hold_words_ahead s o ≡ 0) (w.known t) o at refl refl) may.holds).0

  pub thread_owns : lock w o ≡ OwnedBy t
  thread_owns = saw_thread_owns w P t o may.runs v m (omega (arith, within, v.limits.threads)) owned may.inflated may.owner

  holder_is : who w o ≡ Some t
  holder_is = ap (λ f. holder f (λ u. hold_count o (w.known u).holds)) thread_owns

  -- o's mark names m
  pub mark_names : monitor_in (marks w o) ≡ Some m
  mark_names = saw_inflated w P t o may.runs v m may.inflated

  -- a word of m that the thread saw in this call
  saw_count : (r : ℕ) → last_seen (Recursions m) (w.known t).seen ≡ Some r → w.words (Recursions m) ≡ r
  saw_count r saw = v.seen.stays t (Recursions m) r saw (inl (may.runs, inr (o, mark_names, ap (λ (b : Bool). b || bears (w.known t).stage o) owned)))

  -- the recursions as they are
  counted : (w.known t).stage ≡ Settled → w.words (Recursions m) ≡ recursion_count o (displaced_words w t) (w.known t).holds
  counted calm =
      let was = v.recursions.owned o m t mark_names thread_owns (λ s. absurd (cc (s, calm))) (λ s. absurd (cc (s, calm))) in
      let none = ap (λ s. recursions_ahead s o) calm in
      let also = ap (λ s. recursions_lowered s o) calm in
      omega (arith, was, none, also)

  -- THE STORE of a word after which the thread stands so that the recursions count its holds
  module _ (stage : Stage) (word : ℕ) (now : IsEven stage) (flat : inflation_in stage ≡ None) (not_thread_owned : (i : ℕ) → stage ≡ OwnerConverted i → ⊥)
      (level : (i : ℕ) → i ≢ o → (recursions_ahead stage i ≡ 0) × (recursions_lowered stage i ≡ 0)) (fit : word + recursions_lowered stage o
      ≡ recursion_count o (displaced_words w t) (w.known t).holds + recursions_ahead stage o) where
    abbrev plan : StepPlan
    plan = with_stage stage (store e (Recursions m) word)

    abbrev l : ThreadView
    l = left_with w t plan

    abbrev x : World
    x = hit_world w t plan

    before : IsEven (w.known t).stage
    before = at_count IsEven (w.known t) o at (even_by Settled refl) (even_by (OwnerConverted o) refl)

    inflates : inflation_in stage ≡ inflation_in (w.known t).stage
    inflates = flat ∙ at_count (λ s. None ≡ inflation_in s) (w.known t) o at refl refl

    step : IsStep w t l turning
    step = record { within = within; mine = refl; others = λ k. refl }

    abbrev z : World
    z = next w t l turning x.words

    -- a mark that names m is o's
    alone : (i a : ℕ) → monitor_in (marks w i) ≡ Some a → a ≡ m → i ≡ o
    alone i a n s = v.monitors.alone i o m (n ∙ ap Some s) mark_names

    other : (i a : ℕ) → monitor_in (marks w i) ≡ Some a → i ≢ o → x.words (Recursions a) ≡ w.words (Recursions a)
    other i a n d = ap (λ (b : Bool). cond b word (w.words (Recursions a))) (ne_eqb a m (λ s. d (alone i a n s)))

    here : (i a : ℕ) → monitor_in (marks w i) ≡ Some a → i ≡ o → x.words (Recursions a) ≡ word
    here i a n s = ap (λ (b : Bool). cond b word (w.words (Recursions a)))
        (eq-eqb a m (same_Some _ _ (sym n ∙ ap (λ j. monitor_in (marks w j)) s ∙ mark_names)))

    known : IsKeptOrNamed w (w.known t) m
    known = inr (o, mark_names)

    held : (i : ℕ) → (owner_at P i t || bears stage i) ≡ true → (owner_at P i t || bears (w.known t).stage i) ≡ true
    held i = held_even step before now (owner_at P) i 0

    all_after : AllHold (kept_parts w z P)
    all_after seen = seen_next step x.words P
        (own_seen w P t plan (search (may.runs, inflates, known, held, uncounted_held w P t o m v mark_names holder_is (Recursions m) refl)) v)
    all_after recursions = record {
      first = v.recursions.first;
      others = v.recursions.others;
      owned = λ i a u n. each_with_known (λ u y. lock w i ≡ OwnedBy u → (y.stage ≡ Waits i → ⊥) → (y.stage ≡ Resumes i → ⊥)
          → x.words (Recursions a) + recursions_lowered y.stage i
          ≡ recursion_count i (displaced_words w u) (w.known u).holds + recursions_ahead y.stage i) t l w.known u
          (λ g b c. by_equal i o
          (λ s.
          let now : word + recursions_lowered stage i ≡ recursion_count i (displaced_words w t) (w.known t).holds + recursions_ahead stage i =
          subst (λ j. word + recursions_lowered stage j
          ≡ recursion_count j (displaced_words w t) (w.known t).holds + recursions_ahead stage j) (sym s) fit in
          ap (λ k. k + recursions_lowered stage i) (here i a n s) ∙ now)
          (λ d.
          let was = v.recursions.owned i a t n g (before.plain.waits i) (before.plain.resumes i) in
          let none = at_count (λ s. recursions_ahead s i ≡ 0) (w.known t) o at refl refl in
          let also = at_count (λ s. recursions_lowered s i ≡ 0) (w.known t) o at refl refl in
          omega (arith, was, none, also, level i d, other i a n d)))
          (λ d g b c. by_equal i o
          (λ s. absurd (d (let q : OwnedBy u ≡ OwnedBy t = sym g ∙ ap (lock w) s ∙ thread_owns in cc q)))
          (λ f. ap (λ k. k + recursions_lowered (w.known u).stage i) (other i a n f) ∙ v.recursions.owned i a u n g b c));
      waiting = v.recursions.waiting;
      on_record = λ i a u q n g. by_equal i o (λ s. let f : OnRecord u q ≡ OwnedBy t = sym g ∙ ap (lock w) s ∙ thread_owns in absurd (cc f))
          (λ d. other i a n d ∙ v.recursions.on_record i a u q n g);
      free = λ i a n g. by_equal i o (λ s. let f : Open ≡ OwnedBy t = sym g ∙ ap (lock w) s ∙ thread_owns in absurd (cc f))
          (λ d. other i a n d ∙ v.recursions.free i a n g);
      thread_owns = λ i u. each_with_known (λ u y. y.stage ≡ OwnerConverted i → recursion_count i (displaced_words w u) (w.known u).holds ≡ 0)
          t l w.known u (λ h. absurd (not_thread_owned i h)) (λ d. v.recursions.thread_owns i u);
    }
    all_after c = even_step step before now P may.goes_on may.runs v c

    pub count_fits : Fits x P
    count_fits = step_fits step x.words P (kept_parts w z P)
        (parts_stand w z P refl (λ u. refl) (inflates_stay step inflates) refl refl refl (λ e. header_stays z w refl refl refl e)) all_after

-- THE LAWS
pub raises_count : (e : CallContext) (o m r : ℕ) → KeepsValid (λ w t. MayRaiseCount (w.known t) e o m r) (λ w t. raise_count_plan e o m r)
raises_count e o m r w P t within may valid =
    let v = fits_running w P t may.counts.runs valid in
    let at : AtCount (w.known t) o = elim may.before [ inl a ↦ inl a.0 | inr a ↦ inr a.0 ] in
    let count : r ≡ recursion_count o (displaced_words w t) (w.known t).holds = elim may.before [
      | inl a ↦ sym (saw_count w P t e o m within may.counts at v r a.1) ∙ counted w P t e o m within may.counts at v a.0
      | inr a ↦ a.1 ∙ sym (v.recursions.thread_owns o t a.0)
    ] in
    inl (count_fits w P t e o m within may.counts at v (RecursionsRaised o) (r + 1)
    (even_by (RecursionsRaised o) refl) refl (λ i c. cc c) (λ i d. (ap one_if (ne_eqb o i (λ s. d (sym s))), refl))
    (let one = ap one_if (eq-eqb o o refl) in omega (arith, count, one)))

pub lowers_count : (e : CallContext) (o m r : ℕ) → KeepsValid (λ w t. MayLowerCount (w.known t) e o m r) (λ w t. lower_count_plan e o m r)
lowers_count e o m r w P t within may valid =
    let v = fits_running w P t may.counts.runs valid in
    let count : r ≡ recursion_count o (displaced_words w t) (w.known t).holds =
    sym (saw_count w P t e o m within may.counts (inl may.calm) v r may.saw) ∙ counted w P t e o m within may.counts (inl may.calm) v may.calm in
    inl (count_fits w P t e o m within may.counts (inl may.calm) v (RecursionsLowered o) (r - 1)
    (even_by (RecursionsLowered o) refl) refl (λ i c. cc c) (λ i d. (refl, ap one_if (ne_eqb o i (λ s. d (sym s)))))
    (let one = ap one_if (eq-eqb o o refl) in let some : 1 ≤ r = omega (arith, may.some) in omega (arith, count, one, some)))

pub resets_count : (e : CallContext) (o m : ℕ) → KeepsValid (λ w t. MayResetCount (w.known t) e o m) (λ w t. reset_count_plan e m)
resets_count e o m w P t within may valid =
    let v = fits_running w P t may.counts.runs valid in
    inl (count_fits w P t e o m within may.counts (inr may.takes_over) v Settled 0 (even_by Settled refl) refl (λ i c. cc c) (λ i d. (refl, refl))
    (let none = v.recursions.thread_owns o t may.takes_over in omega (arith, none)))
