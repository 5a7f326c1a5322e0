-- A thread in a wait that has the monitor, before it lets go or after it was notified, stores the recursions, whatever they are.
use Rattle.core_locks.proofs.Prelude.{◌≡◌, ◌≢◌, ◌⊎◌, ℕ, ◌+◌, ◌<◌, ◌||◌, eq-eqb, ne_eqb, Bool, true, false, cond, List, Some, refl, sym, ap, ◌∙◌}
use Rattle.core_locks.proofs.Prelude.{arith, inl, inr, or-true, read_mark, read_owner, owner_of, ByThread, read_owner-owner_of, is_thread}
use Rattle.core_locks.proofs.Prelude.{PlainObject, Owner, Recursions, StepPlan, Stage, Resumes, Waits, monitor_in, inflation_in, bears}
use Rattle.core_locks.proofs.Prelude.{recursions_lowered, ThreadView, World, Open, OnRecord, OwnedBy, lock, lock_form, marks, owner_words}
use Rattle.core_locks.proofs.Prelude.{prototype_of, inflations, who, holder, hold_count, owner_at, owner_lock, IsKeptOrNamed, CallContext}
use Rattle.core_locks.proofs.Prelude.{with_stage, store, Fits, by_equal, header_stays, inflated_form, GoesOn, SawInflated, SawOwn}
use Rattle.core_locks.proofs.Clauses.{kept_parts, parts_stand, seen, recursions, AllHold}
use Rattle.core_locks.proofs.Steps.{quietly, IsStep, next, step_fits, seen_next, quiet_step}
use Rattle.core_locks.proofs.OwnSeen.{own_seen, left_with, hit_world}
use Rattle.core_locks.proofs.monitor.MonitorSeen.{uncounted_held}
use Rattle.core_locks.proofs.enter_exit.HoldWays.{saw_inflated}

-- it stands at s, which bears o; a seen mark names o's monitor m, of which it found itself the owner
pub record IsInWait (k : ThreadView) (e : CallContext) (o m : ℕ) (s : Stage) : Type 0 where
  pub runs : k.running ≡ true
  pub stage : k.stage ≡ s
  pub which : (s ≡ Waits o) ⊎ (s ≡ Resumes o)
  pub inflated : SawInflated k o m
  pub owner : SawOwn k k.thread m
  pub goes_on : GoesOn k e

module _ (w : World) (P : List PlainObject) (t : ℕ) (e : CallContext) (o m : ℕ) (s : Stage)
    (within : t < w.shape.threads) (may : IsInWait (w.known t) e o m s) (v : Fits w P) where
  -- it has the lock by the monitor
  bears_it : bears (w.known t).stage o ≡ true
  bears_it = ap (λ s. bears s o) may.stage
      ∙ elim may.which [ inl a ↦ ap (λ s. bears s o) a ∙ eq-eqb o o refl | inr a ↦ ap (λ s. bears s o) a ∙ eq-eqb o o refl ]

  pub held_it : (owner_at P o t || bears (w.known t).stage o) ≡ true
  held_it = ap (λ (b : Bool). owner_at P o t || b) bears_it ∙ or-true (owner_at P o t)

  pub mark_names : monitor_in (marks w o) ≡ Some m
  mark_names = saw_inflated w P t o may.runs v m may.inflated

  pub thread_owns : lock w o ≡ OwnedBy t
  thread_owns =
      let few : t < 32 = omega (arith, within, v.limits.threads) in
      let own : owner_words w m ≡ owner_of (ByThread t) = v.seen.stays t (Owner m) (owner_of (ByThread t))
      (may.owner ∙ ap (λ u. Some (owner_of (ByThread u))) (v.numbered t)) (inl (may.runs, inr (o, mark_names, held_it))) in
      ap (λ f. lock_form f (prototype_of w o) (owner_words w) (inflations w o)) (inflated_form (read_mark (marks w o)) m mark_names)
      ∙ ap (λ n. owner_lock (read_owner n)) own ∙ ap owner_lock (read_owner-owner_of (ByThread t) few)

  pub holder_is : who w o ≡ Some t
  holder_is = ap (λ f. holder f (λ u. hold_count o (w.known u).holds)) thread_owns

  pub known : IsKeptOrNamed w (w.known t) m
  known = inr (o, mark_names)

  pub other_thread : (u : ℕ) → u ≢ t → is_thread (who w o) u ≡ false
  other_thread u d = ap (λ a. is_thread a u) holder_is ∙ ne_eqb t u (λ q. d (sym q))

  -- THE RECURSIONS
  module _ (word : ℕ) where
    abbrev plan : StepPlan
    plan = with_stage s (store e (Recursions m) word)

    count_step : IsStep w t (left_with w t plan) quietly
    count_step = record { within = within; mine = λ j. record (left_with w t plan) { stage = sym may.stage j }; others = λ k. refl }

    abbrev counted : World
    counted = next w t (left_with w t plan) quietly (hit_world w t plan).words

    other : (i a : ℕ) → monitor_in (marks w i) ≡ Some a → i ≢ o → (hit_world w t plan).words (Recursions a) ≡ w.words (Recursions a)
    other i a n d = ap (λ (b : Bool). cond b word (w.words (Recursions a))) (ne_eqb a m (λ s. d (v.monitors.alone i o m (n ∙ ap Some s) mark_names)))

    count_after : AllHold (kept_parts w counted P)
    count_after seen = seen_next count_step (hit_world w t plan).words P
        (own_seen w P t plan (search (may.runs, inflates, known, held, uncounted_held w P t o m v mark_names holder_is (Recursions m) refl)) v)
      where
        inflates : inflation_in s ≡ inflation_in (w.known t).stage
        inflates = sym (ap inflation_in may.stage)

        held : (i : ℕ) → (owner_at P i t || bears s i) ≡ true → (owner_at P i t || bears (w.known t).stage i) ≡ true
        held i h = ap (λ s. owner_at P i t || bears s i) may.stage ∙ h
    count_after recursions = record {
      first = v.recursions.first;
      others = v.recursions.others;
      owned = λ i a u n g b c. by_equal i o
          (λ s. (let q : OwnedBy u ≡ OwnedBy t = sym g ∙ ap (lock w) s ∙ thread_owns in let same : u ≡ t = cc q in absurd (elim may.which [
            | inl f ↦ b (ap (λ y. (w.known y).stage) same ∙ may.stage ∙ f ∙ ap Waits (sym s))
            | inr f ↦ c (ap (λ y. (w.known y).stage) same ∙ may.stage ∙ f ∙ ap Resumes (sym s))
          ])))
          (λ d. ap (λ k. k + recursions_lowered (w.known u).stage i) (other i a n d) ∙ v.recursions.owned i a u n g b c);
      waiting = v.recursions.waiting;
      on_record = λ i a u q n g. by_equal i o (λ s. let f : OnRecord u q ≡ OwnedBy t = sym g ∙ ap (lock w) s ∙ thread_owns in absurd (cc f))
          (λ d. other i a n d ∙ v.recursions.on_record i a u q n g);
      free = λ i a n g. by_equal i o (λ s. let f : Open ≡ OwnedBy t = sym g ∙ ap (lock w) s ∙ thread_owns in absurd (cc f))
          (λ d. other i a n d ∙ v.recursions.free i a n g);
      thread_owns = v.recursions.thread_owns;
    }
    count_after c = quiet_step count_step P may.goes_on may.runs v c

    pub count_fits : Fits (hit_world w t plan) P
    count_fits = step_fits count_step (hit_world w t plan).words P (kept_parts w counted P)
        (parts_stand w counted P refl (λ u. refl) (λ u. refl) refl refl refl (λ e. header_stays counted w refl refl refl e)) count_after
