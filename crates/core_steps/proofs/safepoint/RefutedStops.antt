-- A stop publishes the length of its log first, and stands in the middle of nothing then. Where its thread stood in the middle of something, no
-- valid world comes after that.
use Rattle.core_locks.proofs.Prelude.{◌≡◌, ◌⊎◌, ℕ, zero, suc, ◌||◌, ◌==◌, Bool, true, false, List, [], ◌∷◌, length, Option, Some, None, refl}
use Rattle.core_locks.proofs.Prelude.{sym, ap, ◌∙◌, arith, inl, inr, read_mark, is_thread, is_listed, PlainObject, Mark, Waiting, Length, Stage}
use Rattle.core_locks.proofs.Prelude.{Settled, RecordLocked, MonitorAcquired, Enters, Resumes, Exits, Waits, RecursionsRaised, RecursionsLowered}
use Rattle.core_locks.proofs.Prelude.{Inflates, Notifies, WaitForm, Notified, read_wait, waits_on, waits_form, says_notified, notified_form}
use Rattle.core_locks.proofs.Prelude.{monitor_in, Inflation, inflation_in, bears, hold_words_ahead, recursions_ahead, recursions_lowered}
use Rattle.core_locks.proofs.Prelude.{notification_in, one_if, ThreadView, World, with_word_and_known, OwnedBy, lock, lock_form, holder, who}
use Rattle.core_locks.proofs.Prelude.{hold_count, recursion_count, marks, displaced_words, owner_words, prototype_of, inflations, holds_by_monitor}
use Rattle.core_locks.proofs.Prelude.{monitor_of, owner_at, waits_at, Fits, by_equal, with_known_here, with_known_else, part_moves, inflations_stay}
use Rattle.core_locks.proofs.Prelude.{sound, owner_stands, thread_is, same_number, same_Some, who_bears}
use Rattle.core_world.specs.Threads.ThreadView.{local_of}
use Rattle.core_world.specs.Trees.Plans.{CallContext}
use Rattle.core_world.specs.Trees.SafepointSteps.{publish_log_plan, stop_steps}
use Rattle.core_world.specs.Steps.{is_idle}
use Rattle.core_world.specs.Clauses.Waits.{AreNotified}
use Rattle.core_locks.proofs.RefutedSilent.{same_objects}
use Rattle.core_locks.proofs.RefutedSteps.{knows, hit_fits}
use Rattle.core_locks.proofs.monitor.RefutedOwners.{owner_uncalled}
use Rattle.core_world.proofs.bias.LookWhileRevoking.{without_clause}
use Rattle.core_law.specs.WholeLaw.{LawsHold}
use Rattle.core_law.specs.Logic.{Heap, SoundWorldWith, DoesSteps}
use Rattle.core_steps.specs.Weakened.{is_between}
use Rattle.core_law.proofs.Standing.{fits_here, away}

left_true : (a b : Bool) → (a || b) ≡ true → b ≡ false → a ≡ true
left_true true b e f = refl
left_true false b e f = absurd (cc (e, f))

-- a word that says that its thread was notified doesn't say that it waits
waits_untold : (n o : ℕ) → waits_on n o ≡ true → says_notified n o ≡ true → ⊥
waits_untold n o waits told = by_form (read_wait n) waits told
  where
    by_form : (f : Option WaitForm) → waits_form f o ≡ true → notified_form f o ≡ true → ⊥
    by_form (Some (Notified i)) a b = absurd (cc a)
    by_form None a b = absurd (cc a)
    by_form (Some _) a b = absurd (cc b)

one_there : (o : ℕ) → one_if (o == o) ≡ 1
one_there o = ap one_if (same_number o)

module _ (w : World) (P Q : List PlainObject) (n t : ℕ) (l : ThreadView) (silent : l.log ≡ (w.known t).log) (own : l.holds ≡ (w.known t).holds)
    (calm : l.stage ≡ Settled) (before : Fits w P) (afterwards : Fits (with_word_and_known (Length t) n t l w) Q) where
  abbrev x : World
  x = with_word_and_known (Length t) n t l w

  here : x.known t ≡ l
  here = with_known_here t l w.known

  now_calm : (x.known t).stage ≡ Settled
  now_calm = ap (λ (k : ThreadView). k.stage) here ∙ calm

  objects : P ≡ Q
  objects = same_objects w P Q (Length t) n t l silent before afterwards

  -- LOCKS stay, where no inflation ends
  module _ (free : inflation_in (w.known t).stage ≡ None) where
    inflation : inflations w ≡ inflations x
    inflation = inflations_stay w.shape.threads _ _ (part_moves (λ y. inflation_in y.stage) t l w.known (free ∙ sym (ap inflation_in calm)))

    lock_stays : (o : ℕ) → lock w o ≡ lock x o
    lock_stays o = ap (λ (f : ℕ → Option Inflation). lock_form (read_mark (marks w o)) (prototype_of w o) (owner_words w) (f o)) inflation

    who_stays : (o : ℕ) → who w o ≡ who x o
    who_stays o = λ i. holder (lock_stays o i) (λ u. hold_count o (part_moves (λ y. y.holds) t l w.known (sym own) i u))

    -- so a thread that bore the lock would be its plain owner
    owns : (o : ℕ) → bears (w.known t).stage o ≡ true → owner_at P o t ≡ true
    owns o borne =
        let has : is_thread (who x o) t ≡ true = ap (λ a. is_thread a t) (sym (who_stays o) ∙ who_bears w P o t before borne) ∙ same_number t in
        ap (λ R. owner_at R o t) objects
        ∙ left_true (owner_at Q o t) (bears (x.known t).stage o) (sym (afterwards.owners.same o t) ∙ has) (ap (λ s. bears s o) now_calm)

    -- the recursions of its monitor count its holds again
    uneven : (o m : ℕ) → monitor_in (w.words (Mark o)) ≡ Some m → lock w o ≡ OwnedBy t → ((w.known t).stage ≡ Waits o → ⊥)
        → ((w.known t).stage ≡ Resumes o → ⊥) → recursions_ahead (w.known t).stage o ≡ recursions_lowered (w.known t).stage o
    uneven o m names takes_over unleft unback =
        let was = before.recursions.owned o m t names takes_over unleft unback in
        let is = afterwards.recursions.owned o m t names (sym (lock_stays o) ∙ takes_over) (λ s. cc (now_calm, s)) (λ s. cc (now_calm, s)) in
        let same : recursion_count o (displaced_words w t) (x.known t).holds ≡ recursion_count o (displaced_words w t) (w.known t).holds =
        ap (λ (k : ThreadView). recursion_count o (displaced_words w t) k.holds) here ∙ ap (recursion_count o (displaced_words w t)) own in
        let even_ahead = ap (λ s. recursions_ahead s o) now_calm in
        let even_lowered = ap (λ s. recursions_lowered s o) now_calm in
        omega (arith, was, is, same, even_ahead, even_lowered)

  -- HOLDS. A plain owner has hold words, and they are as many as before.
  unheld : (o : ℕ) → hold_words_ahead (w.known t).stage o ≡ 0 → hold_count o (w.known t).holds ≡ 0 → owner_at P o t ≡ true → ⊥
  unheld o even none owner = omega (arith, before.holds.number t o, even, none, owner_stands (monitor_of P o) t (sound w P before o) owner)

  as_many : (o : ℕ) → hold_words_ahead (w.known t).stage o ≡ 0
  as_many o =
      let was = before.holds.number t o in
      let is = afterwards.holds.number t o in
      let same : hold_count o (x.known t).holds ≡ hold_count o (w.known t).holds = ap (λ (k : ThreadView). hold_count o k.holds) here ∙ ap (hold_count o) own in
      let even = ap (λ s. hold_words_ahead s o) now_calm in
      let stands = ap (λ R. holds_by_monitor (monitor_of R o) t) objects in
      omega (arith, was, is, same, even, stands)

  -- AN INFLATION has its thread
  inflates : (o u p : ℕ) → (w.known t).stage ≡ Inflates o u p → ⊥
  inflates o u p at =
      let mine : Inflation = record { object = o; thread = u; place = p } in
      let zero_now = before.inflating.zero t mine (ap inflation_in at) in
      let some = afterwards.inflating.some o zero_now in
      by_equal some.0 t
      (λ e. let is = some.2 in let none = ap (λ y. inflation_in (x.known y).stage) e ∙ ap inflation_in now_calm in absurd (cc (is, none)))
      (λ d. d (before.inflating.one some.0 t some.1 mine
      (ap (λ (k : ThreadView). inflation_in k.stage) (sym (with_known_else t l w.known some.0 d)) ∙ some.2) (ap inflation_in at) some.3))

  -- WHO WAITS AND WAS TOLD was notified by an owner who is telling all, and there is one owner
  tells : (o m : ℕ) → (w.known t).stage ≡ Notifies o (suc m) → ⊥
  tells o m at = by_waits (waits_at P o) refl (before.waits.telling t o (suc m) at)
    where
      told_by : (z : ℕ) → says_notified (w.words (Waiting z)) o ≡ true → is_listed (waits_at P o) z ≡ true → ⊥
      told_by z told listed = elim (afterwards.waits.waiting z o (ap (λ R. is_listed (waits_at R o) z) (sym objects) ∙ listed)) [
        | inl waits ↦ waits_untold (w.words (Waiting z)) o waits told
        | inr by ↦
            let u : ℕ = by.1.0 in
            by_equal u t
            (λ e. let is = by.1.1 in let none = ap (λ y. notification_in (x.known y).stage) e ∙ ap notification_in now_calm in absurd (cc (is, none)))
            (λ d.
            let owner = thread_is (monitor_of P o).owner u
            (before.owners.calls o u (ap (λ (k : ThreadView). notification_in k.stage) (sym (with_known_else t l w.known u d)) ∙ by.1.1)) in
            let mine = thread_is (monitor_of P o).owner t (before.owners.calls o t (ap notification_in at)) in
            d (same_Some u t (sym owner ∙ mine)))
      ]

      by_waits : (ps : List (ℕ × ℕ)) → waits_at P o ≡ ps → AreNotified (λ z. w.words (Waiting z)) o (suc m) ps → ⊥
      by_waits [] e a = absurd (cc a)
      by_waits (p ∷ ps) e a = told_by p.0 a.0 (ap (λ qs. is_listed qs p.0) e ∙ ap (λ b. b || is_listed ps p.0) (same_number p.0))

  pub between_refused : (s : Stage) → (w.known t).stage ≡ s → is_between s ≡ true → ⊥
  between_refused (RecordLocked o p) at b =
      unheld o (ap (λ s. hold_words_ahead s o) at) (before.records.seized o t p at).3 (owns (ap inflation_in at) o (ap (λ s. bears s o) at ∙ same_number o))
  between_refused (MonitorAcquired o) at b =
      unheld o (ap (λ s. hold_words_ahead s o) at) (before.records.grabbed o t at).1 (owns (ap inflation_in at) o (ap (λ s. bears s o) at ∙ same_number o))
  between_refused (Enters o p path) at b = let one = ap (λ s. hold_words_ahead s o) at in omega (arith, one, as_many o, one_there o)
  between_refused (Exits o p) at b = let one = ap (λ s. hold_words_ahead s o) at in omega (arith, one, as_many o, one_there o)
  between_refused (Resumes o) at b =
      owner_uncalled w P o t before (owns (ap inflation_in at) o (ap (λ s. bears s o) at ∙ same_number o)) (before.waits.resuming t o at)
  between_refused (Waits o) at b =
      let owner = owns (ap inflation_in at) o (ap (λ s. bears s o) at ∙ same_number o) in
      let out = before.owners.let_go o t at in
      absurd (cc (owner, out))
  between_refused (Inflates o u p) at b = inflates o u p at
  between_refused (Notifies o zero) at b = absurd (cc b)
  between_refused (Notifies o (suc m)) at b = tells o m at
  between_refused _ at b = absurd (cc b)

  pub counting_refused : (o m : ℕ) → monitor_in (w.words (Mark o)) ≡ Some m → lock w o ≡ OwnedBy t
      → ((w.known t).stage ≡ RecursionsRaised o) ⊎ ((w.known t).stage ≡ RecursionsLowered o) → ⊥
  counting_refused o m names takes_over (inl at) =
      let even = uneven (ap inflation_in at) o m names takes_over (λ s. cc (at, s)) (λ s. cc (at, s)) in
      omega (arith, even, ap (λ s. recursions_ahead s o) at, ap (λ s. recursions_lowered s o) at, one_there o)
  counting_refused o m names takes_over (inr at) =
      let even = uneven (ap inflation_in at) o m names takes_over (λ s. cc (at, s)) (λ s. cc (at, s)) in
      omega (arith, even, ap (λ s. recursions_ahead s o) at, ap (λ s. recursions_lowered s o) at, one_there o)

module _ (heap : Heap) (k : ThreadView) (fresh : Bool) (v : SoundWorldWith heap k) (at_first : is_idle heap.shape k ≡ fresh)
    (e : CallContext) (runs : k.running ≡ true) (does : DoesSteps heap fresh (stop_steps e (local_of k)) k) where
  published : (Q : List PlainObject) × Fits (with_word_and_known (Length k.thread) (length k.log) k.thread
      (knows (publish_log_plan e k.thread (length k.log)) k.thread v.world) v.world) Q
  published = hit_fits (publish_log_plan e k.thread (length k.log)) k.thread v.world refl
      (away heap k v (λ s y. y.running ≡ true) runs) (without_clause LawsHold _ ((does.by.0 at_first).by v))

  pub stop_between_fails : is_between k.stage ≡ true → ⊥
  stop_between_fails between =
      between_refused v.world v.objects published.0 (length k.log) k.thread
      (knows (publish_log_plan e k.thread (length k.log)) k.thread v.world) refl refl refl (fits_here heap k v runs) published.1 k.stage
      (ap (λ (y : ThreadView). y.stage) v.knows) between

  pub stop_counting_fails : (o m : ℕ) → monitor_in (v.world.words (Mark o)) ≡ Some m
      → lock v.world o ≡ OwnedBy k.thread → (k.stage ≡ RecursionsRaised o) ⊎ (k.stage ≡ RecursionsLowered o) → ⊥
  stop_counting_fails o m names takes_over at =
      counting_refused v.world v.objects published.0 (length k.log) k.thread (knows (publish_log_plan e k.thread (length k.log)) k.thread v.world)
      refl refl refl (fits_here heap k v runs) published.1 o m names takes_over
      (elim at [ inl a ↦ inl (ap (λ (y : ThreadView). y.stage) v.knows ∙ a) | inr a ↦ inr (ap (λ (y : ThreadView). y.stage) v.knows ∙ a) ])
