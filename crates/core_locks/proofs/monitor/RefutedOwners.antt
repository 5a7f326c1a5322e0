-- Steps on the owner word and the recursions of a monitor that a mark names, which lead to no valid world.
use Rattle.core_locks.proofs.Prelude.{◌≡◌, ◌≢◌, ℕ, ◌+◌, ◌<◌, ◌||◌, ne_eqb, true, List, Option, Some, None, refl, sym, ap, ◌∙◌, arith, read_mark}
use Rattle.core_locks.proofs.Prelude.{is_thread, is_listed, PlainObject, Mark, Owner, Recursions, StepPlan, Stage, Settled}
use Rattle.core_locks.proofs.Prelude.{Exits, RecursionsRaised}
use Rattle.core_locks.proofs.Prelude.{monitor_in, bears, recursions_ahead, recursions_lowered, one_if, ThreadView, World}
use Rattle.core_locks.proofs.Prelude.{with_word_and_known, Open, OnRecord, OwnedBy, lock, marks, displaced_words, owner_words, who, holder}
use Rattle.core_locks.proofs.Prelude.{hold_count, recursion_count, owner_at, notified_at, CallContext, with_stage, store, logging_plan, world_after}
use Rattle.core_locks.proofs.Prelude.{Fits, with_known_here, same_Some, thread_is, Inflated, OwnerForm, Free, ByThread, ByRecord, read_owner}
use Rattle.core_locks.proofs.Prelude.{owner_of, read_owner-owner_of, Exit, times_in, Store, owner_lock, Valid, owner_zero, running_fits}
use Rattle.core_locks.proofs.Prelude.{lock_by_form, with_word_there, inflated_form, sound, never_counted, listed_count}
use Rattle.core_locks.proofs.RefutedSilent.{same_objects, others_have}
use Rattle.core_locks.proofs.RefutedSteps.{knows, hit, hit_fits}

-- the lock of an object whose mark names a monitor is what the owner word says
pub lock_by_owner : (w : World) (o m : ℕ) → monitor_in (marks w o) ≡ Some m → lock w o ≡ owner_lock (read_owner (owner_words w m))
lock_by_owner w o m names = lock_by_form w o (Inflated m) (inflated_form (read_mark (marks w o)) m names)

-- THE OWNER IS STORED. The thread has the lock then, and another had it.
pub no_second_owner : (w : World) (o m t u : ℕ) (e : CallContext) (s : Stage) (v : Valid w)
    → (w.known t).running ≡ true → u ≢ t → monitor_in (w.words (Mark o)) ≡ Some m
    → (owner_at v.objects o u || bears (w.known u).stage o) ≡ true → Valid (world_after (with_stage s (store e (Owner m) (owner_of (ByThread t)))) t w) → ⊥
no_second_owner w o m t u e s v runs other names had valid =
    let plan : StepPlan = with_stage s (store e (Owner m) (owner_of (ByThread t))) in
    let l = knows plan t w in
    let x = hit plan t w in
    let before = running_fits w v t runs in
    let a = hit_fits plan t w refl runs valid in
    let few : t < 32 = omega (arith, before.limits.threads, before.safe.few t runs) in
    let word : read_owner (owner_words x m) ≡ Some (ByThread t) =
    ap read_owner (with_word_there (Owner m) (owner_of (ByThread t)) w.words) ∙ read_owner-owner_of (ByThread t) few in
    let mine : who x o ≡ Some t = ap (λ k. holder k (λ z. hold_count o (x.known z).holds)) (lock_by_owner x o m names ∙ ap owner_lock word) in
    let its : is_thread (who x o) u ≡ true =
    sym (others_have w v.objects a.0 (Owner m) (owner_of (ByThread t)) t l refl before a.1 o u other) ∙ before.owners.same o u ∙ had in
    absurd (other (sym (same_Some t u (sym mine ∙ thread_is (who x o) u its))))

-- THE RECURSIONS ARE STORED, one more. Only at Ahead do they count a hold that the thread hasn't.
not_ahead : (s : Stage) (o : ℕ) → s ≢ RecursionsRaised o → recursions_ahead s o ≡ 0
not_ahead (RecursionsRaised i) o d = ap one_if (ne_eqb i o (λ e. d (ap RecursionsRaised e)))
not_ahead _ o d = refl

-- the plain owner wasn't called
pub owner_uncalled : (w : World) (P : List PlainObject) (o t : ℕ) → Fits w P → owner_at P o t ≡ true → is_listed (notified_at P o) t ≡ true → ⊥
owner_uncalled w P o t v own called =
    let s = sound w P v o in
    let one = s.once t in
    let present = ap one_if own in
    let none : times_in (notified_at P o) t ≡ 0 = omega (arith, one, present) in
    absurd (omega (arith, never_counted (notified_at P o) t none, listed_count (notified_at P o) t s.called called))

module _ (w : World) (P Q : List PlainObject) (o m t : ℕ) (l : ThreadView) (silent : l.log ≡ (w.known t).log)
    (own : l.holds ≡ (w.known t).holds) (calm : (w.known t).stage ≡ Settled) (names : monitor_in (w.words (Mark o)) ≡ Some m)
    (owner : owner_at P o t ≡ true) (before : Fits w P) (afterwards : Fits (with_word_and_known (Recursions m) (w.words (Recursions m) + 1) t l w) Q) where
  abbrev x : World
  x = with_word_and_known (Recursions m) (w.words (Recursions m) + 1) t l w

  here : x.known t ≡ l
  here = with_known_here t l w.known

  owns_now : owner_at Q o t ≡ true
  owns_now = ap (λ R. owner_at R o t) (sym (same_objects w P Q (Recursions m) _ t l silent before afterwards)) ∙ owner

  more : x.words (Recursions m) ≡ w.words (Recursions m) + 1
  more = with_word_there (Recursions m) (w.words (Recursions m) + 1) w.words

  has : who w o ≡ Some t
  has = thread_is (who w o) t (before.owners.same o t ∙ ap (λ b. b || bears (w.known t).stage o) owner)

  ahead_only : l.stage ≢ RecursionsRaised o → ⊥
  ahead_only apart = by_form (read_owner (owner_words w m)) refl
    where
      who_is : (f : Option OwnerForm) → read_owner (owner_words w m) ≡ f → holder (owner_lock f) (λ z. hold_count o (w.known z).holds) ≡ Some t
      who_is f r = ap (λ k. holder k (λ z. hold_count o (w.known z).holds)) (sym (lock_by_owner w o m names ∙ ap owner_lock r)) ∙ has

      by_form : (f : Option OwnerForm) → read_owner (owner_words w m) ≡ f → ⊥
      by_form None r = absurd (cc (who_is None r))
      by_form (Some Free) r = absurd (cc (who_is (Some Free) r))
      by_form (Some (ByRecord u p)) r =
          let rests : lock x o ≡ OnRecord u p = lock_by_owner x o m names ∙ ap owner_lock r in
          absurd (omega (arith, afterwards.recursions.on_record o m u p names rests, more))
      by_form (Some (ByThread u)) r =
          let same : u ≡ t = same_Some _ _ (who_is (Some (ByThread u)) r) in
          let takes_over : owner_lock (read_owner (owner_words w m)) ≡ OwnedBy t = ap owner_lock r ∙ ap OwnedBy same in
          let was = before.recursions.owned o m t names (lock_by_owner w o m names ∙ takes_over) (λ s. cc (calm, s)) (λ s. cc (calm, s)) in
          let is = afterwards.recursions.owned o m t names (lock_by_owner x o m names ∙ takes_over)
          (λ s. cc (owns_now, afterwards.owners.let_go o t s)) (λ s. owner_uncalled x Q o t afterwards owns_now (afterwards.waits.resuming t o s)) in
          let calm_lowered = ap (λ s. recursions_lowered s o) calm in
          let calm_ahead = ap (λ s. recursions_ahead s o) calm in
          let now_ahead = ap (λ k. recursions_ahead k.stage o) here ∙ not_ahead l.stage o apart in
          let records = ap (λ k. recursion_count o (displaced_words w t) k.holds) here ∙ ap (recursion_count o (displaced_words w t)) own in
          absurd (omega (arith, was, is, calm_lowered, calm_ahead, now_ahead, records, more))

pub no_recursion_without_a_hold : (w : World) (o m t : ℕ) (e : CallContext) (s : Stage) (v : Valid w)
    → (w.known t).running ≡ true → (w.known t).stage ≡ Settled → monitor_in (w.words (Mark o)) ≡ Some m
    → owner_at v.objects o t ≡ true → s ≢ RecursionsRaised o → Valid (world_after (with_stage s (store e (Recursions m) (w.words (Recursions m) + 1))) t w) → ⊥
no_recursion_without_a_hold w o m t e s v runs calm names owner apart valid =
    let plan : StepPlan = with_stage s (store e (Recursions m) (w.words (Recursions m) + 1)) in
    let a = hit_fits plan t w refl runs valid in
    ahead_only w v.objects a.0 o m t (knows plan t w) refl refl calm names owner (running_fits w v t runs) a.1 apart

-- THE OWNER WORD IS FREED. An open lock has no recursions.
no_recursions_left : (w : World) (Q : List PlainObject) (o m t : ℕ) (l : ThreadView) → monitor_in (w.words (Mark o)) ≡ Some m
    → 0 < w.words (Recursions m) → Fits (with_word_and_known (Owner m) (owner_of Free) t l w) Q → ⊥
no_recursions_left w Q o m t l names some afterwards =
    let x = with_word_and_known (Owner m) (owner_of Free) t l w in
    let word : read_owner (owner_words x m) ≡ Some Free = ap read_owner (with_word_there (Owner m) (owner_of Free) w.words) ∙ owner_zero in
    let opened : lock x o ≡ Open = lock_by_owner x o m names ∙ ap owner_lock word in
    absurd (omega (arith, afterwards.recursions.free o m names opened, some))

pub no_exit_with_recursions : (w : World) (o m t p : ℕ) (e : CallContext)
    → (w.known t).running ≡ true → monitor_in (w.words (Mark o)) ≡ Some m → 0 < w.words (Recursions m)
    → Valid (world_after (with_stage (Exits o p) (logging_plan (Exit o) e (Owner m) (Store (owner_of Free)))) t w) → ⊥
no_exit_with_recursions w o m t p e runs names some valid =
    let plan : StepPlan = with_stage (Exits o p) (logging_plan (Exit o) e (Owner m) (Store (owner_of Free))) in
    let a = hit_fits plan t w refl runs valid in
    no_recursions_left w a.0 o m t (knows plan t w) names some a.1

pub no_wait_with_recursions : (w : World) (o m t : ℕ) (e : CallContext)
    → (w.known t).running ≡ true → monitor_in (w.words (Mark o)) ≡ Some m → 0 < w.words (Recursions m)
    → Valid (world_after (store e (Owner m) (owner_of Free)) t w) → ⊥
no_wait_with_recursions w o m t e runs names some valid =
    let plan : StepPlan = store e (Owner m) (owner_of Free) in
    let a = hit_fits plan t w refl runs valid in
    no_recursions_left w a.0 o m t (knows plan t w) names some a.1
