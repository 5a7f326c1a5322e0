-- A thread that is about to wait loads the recursions of its monitor, and saves them. Loads of a monitor's words by who has found it are looks.
use Rattle.core_locks.proofs.Prelude.{◌≡◌, ◌⊎◌, ℕ, ◌+◌, ◌<◌, ◌||◌, eq-eqb, ne_eqb, Bool, true, cond, List, Some, refl, sym, ap}
use Rattle.core_locks.proofs.Prelude.{◌∙◌, subst, inl, inr, same_Some, is_listed, PlainObject, WordId, Recursions, StepPlan}
use Rattle.core_locks.proofs.Prelude.{Settled, monitor_in, inflation_in, bears, recursions_lowered, ThreadView, World, marks}
use Rattle.core_locks.proofs.Prelude.{displaced_words, who, holder, hold_count, recursion_count, owner_at, waits_at, notified_at}
use Rattle.core_locks.proofs.Prelude.{IsKeptOrNamed, CallContext, Fits, HasFound, by_equal, each_with_known, header_stays, fits_running}
use Rattle.core_locks.proofs.Prelude.{KeepsValid, MayCount, MaySaveCount, MayLoadOfMonitor, save_count_plan, load_plan}
use Rattle.core_locks.proofs.WaitOut.{out_unlisted}
use Rattle.core_locks.proofs.Clauses.{kept_parts, parts_stand, seen, recursions, AllHold}
use Rattle.core_locks.proofs.Steps.{saving, IsStep, next, step_fits, seen_next, quiet_step}
use Rattle.core_locks.proofs.OwnSeen.{own_seen, left_with, hit_world}
use Rattle.core_locks.proofs.monitor.MonitorSeen.{uncounted_held}
use Rattle.core_locks.proofs.monitor.Counting.{thread_owns as has_it, mark_names as its_mark}
use Rattle.core_locks.proofs.LookOn.{load_valid}
use Rattle.core_locks.proofs.monitor.SwapLaws.{found_by_mark}

module _ (w : World) (P : List PlainObject) (t : ℕ) (e : CallContext) (o m : ℕ) (within : t < w.shape.threads)
    (may : MayCount (w.known t) e o m) (calm : (w.known t).stage ≡ Settled) (v : Fits w P) where
  abbrev plan : StepPlan
  plan = save_count_plan e m

  abbrev l : ThreadView
  l = left_with w t plan

  abbrev x : World
  x = hit_world w t plan

  mark_names : monitor_in (marks w o) ≡ Some m
  mark_names = its_mark w P t e o m within may (inl calm) v

  step : IsStep w t l saving
  step = record { within = within; mine = λ j. record l { stage = sym calm j }; others = λ k. refl }

  abbrev z : World
  z = next w t l saving x.words

  same : (a : ℕ) → x.words (Recursions a) ≡ w.words (Recursions a)
  same a = by_equal a m
      (λ s. ap (λ (b : Bool). cond b (w.words (Recursions m)) (w.words (Recursions a))) (eq-eqb a m s) ∙ ap (λ k. w.words (Recursions k)) (sym s))
      (λ d. ap (λ (b : Bool). cond b (w.words (Recursions m)) (w.words (Recursions a))) (ne_eqb a m d))

  unlisted : (i : ℕ) → (is_listed (waits_at P i) t ≡ true) ⊎ (is_listed (notified_at P i) t ≡ true) → ⊥
  unlisted i h =
      let n = out_unlisted w P t v may.out (λ j f. absurd (cc (calm, f))) i in
      elim h [ inl b ↦ (let a = n.0 in absurd (cc (a, b))) | inr b ↦ (let a = n.1 in absurd (cc (a, b))) ]

  inflates : inflation_in Settled ≡ inflation_in (w.known t).stage
  inflates = sym (ap inflation_in calm)

  holder_is : who w o ≡ Some t
  holder_is = ap (λ f. holder f (λ u. hold_count o (w.known u).holds)) (has_it w P t e o m within may (inl calm) v)

  known : IsKeptOrNamed w (w.known t) m
  known = inr (o, mark_names)

  held : (i : ℕ) → (owner_at P i t || bears Settled i) ≡ true → (owner_at P i t || bears (w.known t).stage i) ≡ true
  held i h = ap (λ s. owner_at P i t || bears s i) calm ∙ h

  all_after : AllHold (kept_parts w z P)
  all_after seen = seen_next step x.words P
      (own_seen w P t plan (search (may.runs, inflates, known, held, uncounted_held w P t o m v mark_names holder_is (Recursions m) refl)) v)
  all_after recursions = record {
    first = v.recursions.first;
    others = v.recursions.others;
    owned = λ i a u n g b c. ap (λ k. k + recursions_lowered (w.known u).stage i) (same a) ∙ v.recursions.owned i a u n g b c;
    waiting = λ i u. each_with_known (λ u y. (is_listed (waits_at P i) u ≡ true) ⊎ (is_listed (notified_at P i) u ≡ true)
        → y.saved ≡ recursion_count i (displaced_words w u) (w.known u).holds) t l w.known u
        (λ h. absurd (unlisted i h)) (λ d. v.recursions.waiting i u);
    on_record = λ i a u q n g. same a ∙ v.recursions.on_record i a u q n g;
    free = λ i a n g. same a ∙ v.recursions.free i a n g;
    thread_owns = v.recursions.thread_owns;
  }
  all_after c = quiet_step step P may.goes_on may.runs v c

  saved_fits : Fits x P
  saved_fits = step_fits step x.words P (kept_parts w z P)
      (parts_stand w z P refl (λ u. refl) (λ u. refl) refl refl refl (λ e. header_stays z w refl refl refl e)) all_after

pub saves_count : (e : CallContext) (o m : ℕ) → KeepsValid (λ w t. MaySaveCount (w.known t) e o m) (λ w t. save_count_plan e m)
saves_count e o m w P t within may valid = inl (saved_fits w P t e o m within may.counts may.calm (fits_running w P t may.counts.runs valid))

-- a load of a word of the monitor that a seen mark names
pub loads_word : (e : CallContext) (at : WordId) (o m : ℕ) → KeepsValid (λ w t. MayLoadOfMonitor (w.known t) e at o m) (λ w t. load_plan e (w.known t).stage at)
loads_word e at o m w P t within may valid =
    load_valid w P t e at within
    (record {
      outside = λ stopped. absurd (cc (stopped, may.runs));
      found = λ r a its. subst (HasFound (w.known t)) (same_Some _ _ (sym may.of ∙ its)) (found_by_mark (w.known t) o m may.inflated);
    }) may.goes_on may.check valid
