-- A thread that has logged its Wait lets go of the monitor: it stores 0 as the recursions, and clears the owner word.
use Rattle.core_locks.proofs.Prelude.{◌≡◌, ◌≢◌, ℕ, ◌+◌, ◌<◌, ◌||◌, ne_eqb, Bool, true, false, List, Some, refl, sym, ap, ◌∙◌, subst}
use Rattle.core_locks.proofs.Prelude.{arith, inl, inr, same_Some, is_thread, PlainObject, Owner, Recursions, StepPlan, Settled, Resumes}
use Rattle.core_locks.proofs.Prelude.{Exits, Waits, OwnerConverted, monitor_in, inflation_in, bears, hold_words_ahead, recursions_ahead}
use Rattle.core_locks.proofs.Prelude.{recursions_lowered, notification_in, ThreadView, World, with_known, Lock, Open, BiasedTo, OnRecord}
use Rattle.core_locks.proofs.Prelude.{OwnedBy, lock, marks, displaced_words, who, holder, hold_count, recursion_count, owner_at, waits_at}
use Rattle.core_locks.proofs.Prelude.{notified_at, owner_lock, IsKeptOrNamed, GoesByMonitor, CallContext, Fits, IsOwner, each_with_known}
use Rattle.core_locks.proofs.Prelude.{owner_zero, fits_running, KeepsValid, MayDrop, MayQuit, drop_plan, quit_plan}
use Rattle.core_locks.proofs.MarkChanges.{biases_by_marks, hashes_by_marks}
use Rattle.core_locks.proofs.MarkMeanings.{forms_owned}
use Rattle.core_locks.proofs.Clauses.{turned_parts, seen, forms, quiet, holds, owners, biases, records, recursions, hashes, waits, AllHold}
use Rattle.core_locks.proofs.Steps.{stage_part, turning, IsStep, next, seen_next, quiet_next, quiet_step, stage_back, waits_turn, holds_stand}
use Rattle.core_locks.proofs.OwnSeen.{own_seen, left_with, hit_world}
use Rattle.core_locks.proofs.monitor.MonitorSeen.{uncounted_held}
use Rattle.core_locks.proofs.wait.InWait.{IsInWait, held_it, mark_names as its_mark, thread_owns as has_it, holder_is as has}
use Rattle.core_locks.proofs.wait.InWait.{known as finds, other_thread as alone, count_fits}
use Rattle.core_locks.proofs.LockTurns.{LockTurn, records_turn}
use Rattle.core_locks.proofs.monitor.OwnerTurns.{owned_locks, owner_turn, owner_turned}

module _ (w : World) (P : List PlainObject) (t : ℕ) (e : CallContext) (o m : ℕ)
    (within : t < w.shape.threads) (may : MayDrop (w.known t) e o m) (v : Fits w P) where
  at_wait : IsInWait (w.known t) e o m (Waits o)
  at_wait = record { runs = may.runs; stage = may.stage; which = inl refl; inflated = may.inflated; owner = may.owner; goes_on = may.goes_on }

  mark_names : monitor_in (marks w o) ≡ Some m
  mark_names = its_mark w P t e o m (Waits o) within at_wait v

  thread_owns : lock w o ≡ OwnedBy t
  thread_owns = has_it w P t e o m (Waits o) within at_wait v

  holder_is : who w o ≡ Some t
  holder_is = has w P t e o m (Waits o) within at_wait v

  known : IsKeptOrNamed w (w.known t) m
  known = finds w P t e o m (Waits o) within at_wait v

  other_thread : (u : ℕ) → u ≢ t → is_thread (who w o) u ≡ false
  other_thread = alone w P t e o m (Waits o) within at_wait v

  -- THE OWNER
  module _ (none : w.words (Recursions m) ≡ 0) where
    abbrev plan : StepPlan
    plan = quit_plan e m

    abbrev l : ThreadView
    l = left_with w t plan

    abbrev x : World
    x = hit_world w t plan

    abbrev locks : ℕ → Lock
    locks = owned_locks w m 0

    turn : LockTurn w o locks (OwnedBy t) Open
    turn = owner_turn w P o m 0 (OwnedBy t) Open v mark_names thread_owns (ap owner_lock owner_zero)

    open turn use {now, back, forth}

    inflates : inflation_in Settled ≡ inflation_in (w.known t).stage
    inflates = sym (ap inflation_in may.stage)

    held : (i : ℕ) → (owner_at P i t || bears Settled i) ≡ true → (owner_at P i t || bears (w.known t).stage i) ≡ true
    held i h = by_owner (owner_at P i t) refl h
      where
        by_owner : (b : Bool) → owner_at P i t ≡ b → (b || false) ≡ true → (owner_at P i t || bears (w.known t).stage i) ≡ true
        by_owner true a g = ap (λ (b : Bool). b || bears (w.known t).stage i) a
        by_owner false a g = absurd (cc g)

    step : IsStep w t l turning
    step = record { within = within; mine = refl; others = λ k. refl }

    abbrev z : World
    z = next w t l turning x.words

    -- nobody owns the object or bears it then
    nobody : (u : ℕ) → (owner_at P o u || bears (with_known t l w.known u).stage o) ≡ false
    nobody u = each_with_known (λ u y. (owner_at P o u || bears y.stage o) ≡ false) t l w.known u
        (ap (λ (b : Bool). b || false) (v.owners.let_go o t may.stage)) (λ d. sym (v.owners.same o u) ∙ other_thread u d)

    goes : (i u : ℕ) → GoesByMonitor (locks i) (waits_at P i) (notified_at P i) u → GoesByMonitor (lock w i) (waits_at P i) (notified_at P i) u
    goes i u (inl g) = inl (back i (OwnedBy u) g (λ c. cc c))
    goes i u (inr g) = inr g

    all_after : AllHold (turned_parts w z P locks)
    all_after seen = seen_next step x.words P
        (own_seen w P t plan (search (may.runs, inflates, known, held, uncounted_held w P t o m v mark_names holder_is (Owner m) refl)) v)
    all_after forms = forms_owned m 0 v.forms (subst (IsOwner w.shape) (sym owner_zero) tt)
    all_after quiet = quiet_next step P refl may.runs v
    all_after holds = holds_stand step P (λ i. sym (ap (λ s. hold_words_ahead s i) may.stage)) v
    all_after owners = record {
      same = λ i u. elim (now i) [
        | inl a ↦ ap (λ f. is_thread (holder f (λ u. hold_count i (w.known u).holds)) u) a.1
            ∙ sym (ap (λ j. owner_at P j u || bears (with_known t l w.known u).stage j) a.0 ∙ nobody u)
        | inr a ↦
            ap (λ f. is_thread (holder f (λ u. hold_count i (w.known u).holds)) u) a.1
            ∙ each_with_known (λ u y. is_thread (who w i) u ≡ (owner_at P i u || bears y.stage i)) t l w.known u
            (v.owners.same i t ∙ ap (λ (b : Bool). owner_at P i t || b)
            (ap (λ s. bears s i) may.stage ∙ ne_eqb o i (λ q. a.0 (sym q)))) (λ d. v.owners.same i u)
      ];
      let_go = λ i u s. v.owners.let_go i u (stage_back step (Waits i) u (λ c. cc c) s).1;
      left = λ i u q s. v.owners.left i u q (stage_back step (Exits i q) u (λ c. cc c) s).1;
      calls = λ i u s. v.owners.calls i u (sym (stage_part step notification_in (sym (ap notification_in may.stage)) u) ∙ s);
    }
    all_after biases = biases_by_marks (marks w) (marks w) (lock w) locks _ _ _ _ (λ i b. b) (λ i u g b. forth i (BiasedTo u) g (λ c. cc c)) v.biases
    all_after records = records_turn step v locks o Open now (λ u q c. cc c)
        (λ u h. same_Some _ _ (sym h ∙ holder_is))
        (λ i q c. cc (sym may.stage ∙ c)) (λ i q c. cc c) (λ i c. absurd (cc c))
    all_after recursions = record {
      first = λ i u q g. v.recursions.first i u q (goes i u g);
      others = λ i u q d g. v.recursions.others i u q d (goes i u g);
      owned = λ i a u n g. elim (now i) [
        | inl s ↦ (let f : Open ≡ OwnedBy u = sym s.1 ∙ g in absurd (cc f))
        | inr s ↦ each_with_known (λ u y. lock w i ≡ OwnedBy u → (y.stage ≡ Waits i → ⊥) → (y.stage ≡ Resumes i → ⊥)
            → w.words (Recursions a) + recursions_lowered y.stage i
            ≡ recursion_count i (displaced_words w u) (w.known u).holds + recursions_ahead y.stage i) t l w.known u
            (λ h b c.
            let was = v.recursions.owned i a t n h (λ f. (let q : Waits o ≡ Waits i = sym may.stage ∙ f in let same : o ≡ i = cc q in s.0 (sym same)))
            (λ f. (let q : Waits o ≡ Resumes i = sym may.stage ∙ f in absurd (cc q))) in
            let up = ap (λ s. recursions_ahead s i) may.stage in
            let down = ap (λ s. recursions_lowered s i) may.stage in
            omega (arith, was, up, down))
            (λ d h. v.recursions.owned i a u n h) (sym s.1 ∙ g)
      ];
      waiting = v.recursions.waiting;
      on_record = λ i a u q n g. v.recursions.on_record i a u q n (back i (OnRecord u q) g (λ c. cc c));
      free = λ i a n g. elim (now i) [
        | inl s ↦ ap (λ k. w.words (Recursions k)) (same_Some _ _ (sym n ∙ ap (λ j. monitor_in (marks w j)) s.0 ∙ mark_names)) ∙ none
        | inr s ↦ v.recursions.free i a n (sym s.1 ∙ g)
      ];
      thread_owns = λ i u h. v.recursions.thread_owns i u (stage_back step (OwnerConverted i) u (λ c. cc c) h).1;
    }
    all_after hashes = hashes_by_marks (marks w) (marks w) (lock w) locks _ _ _ _ (λ i b. b)
        (λ i u q r. back i (OnRecord u q) r (λ c. cc c)) v.hashes
    all_after waits = waits_turn step (sym (ap notification_in may.stage)) (λ i c. cc (sym may.stage ∙ c))
        (λ i k c. cc c) (λ i c. absurd (cc c)) (λ i c. absurd (cc c)) (quiet_step step P may.goes_on may.runs v waits)
    all_after c = quiet_step step P may.goes_on may.runs v c

    quit_fits : Fits x P
    quit_fits = owner_turned P step m 0 inflates all_after

-- THE LAWS
pub drops_recursions : (e : CallContext) (o m : ℕ) → KeepsValid (λ w t. MayDrop (w.known t) e o m) (λ w t. drop_plan e o m)
drops_recursions e o m w P t within may valid = let v = fits_running w P t may.runs valid in
    inl (count_fits w P t e o m (Waits o) within (at_wait w P t e o m within may v) v 0)

pub quits_monitor : (e : CallContext) (o m : ℕ) → KeepsValid (λ w t. MayQuit (w.known t) e o m) (λ w t. quit_plan e m)
quits_monitor e o m w P t within may valid =
    let v = fits_running w P t may.drops.runs valid in
    let none = v.seen.stays t (Recursions m) 0 may.recursions (inl (
      may.drops.runs,
      inr (o, mark_names w P t e o m within may.drops v, held_it w P t e o m (Waits o) within (at_wait w P t e o m within may.drops v) v),
    )) in
    inl (quit_fits w P t e o m within may.drops v none)
