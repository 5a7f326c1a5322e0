-- Why no heap comes to a world that loses a wake-up.
use Rattle.std.proofs.Common.{◌≡◌, ℕ, true, List, [], Option, Some, None, sym, ap, ◌∙◌, inl, inr}
use Rattle.mark_word.specs.Wait.{read_wait}
use Rattle.mark_word.specs.declared.wait.WaitForm.{WaitForm}
use Rattle.mark_word.specs.declared.wait.WaitForm.TheVariants as wait
use Rattle.plain_monitor.specs.Monitor.{is_listed, is_thread}
use Rattle.plain_monitor.specs.Objects.{PlainObject}
use Rattle.core_world.specs.declared.word_id.WordId.TheVariants.{Safepoint, Waiting}
use Rattle.core_world.specs.Locks.{monitor_of, waits_at, notified_at}
use Rattle.core_world.specs.Threads.ThreadView.{StepMade}
use Rattle.core_world.specs.Words.Forms.{waits_on, waits_form, says_notified, notified_form, is_halted}
use Rattle.core_world.specs.Words.Shape.{IsInLimits}
use Rattle.core_world.specs.World.{World}
use Rattle.core_law.specs.Logic.{Heap}
use Rattle.core_law.specs.Reached.{IsReachable}
use Rattle.step_history.specs.Leads.{Leads}
use Rattle.wake_ups.specs.WakeUps.{AreAfterLogs, resumes_of}
use Rattle.wake_ups.proofs.Later.{notified_stay}
use Rattle.wake_ups.proofs.Notified.{notified_are_told, waiters_are_listed, told_are_notified, halted_face_another}

-- nobody stands in an empty list
none_listed : (ps : List (ℕ × ℕ)) (t : ℕ) → ps ≡ [] → is_listed ps t ≡ true → ⊥
none_listed ps t none listed = let absent = ap (λ (x : List (ℕ × ℕ)). is_listed x t) none in absurd (cc (listed, absent))

-- no word says both that its thread waits and that it was notified, and the word 0 says neither
not_both : (n o : ℕ) → waits_on n o ≡ true → says_notified n o ≡ true → ⊥
not_both n o waits says = by_form (read_wait n) waits says
  where
    by_form : (f : Option WaitForm) → waits_form f o ≡ true → notified_form f o ≡ true → ⊥
    by_form (Some (wait.Waiting object stamp)) h g = absurd (cc g)
    by_form (Some (wait.Notified object)) h g = absurd (cc h)
    by_form (Some wait.Ready) h g = absurd (cc h)
    by_form (Some (wait.Entering object)) h g = absurd (cc h)
    by_form (Some wait.Ended) h g = absurd (cc h)
    by_form None h g = absurd (cc h)

not_ready : (o : ℕ) → waits_on 0 o ≡ true → ⊥
unfolding read_wait
not_ready o h = absurd (cc h)

module _ (heap : Heap) (w : World) (objects : List PlainObject) (t o : ℕ) (limits : IsInLimits heap.shape) (comes : IsReachable heap w)
    (history : AreAfterLogs w objects) where
  pub not_unlisted : waits_at objects o ≡ [] → waits_on (w.words (Waiting t)) o ≡ true → ⊥
  not_unlisted none waits = none_listed (waits_at objects o) t none (waiters_are_listed heap w objects t o limits comes history waits)

  pub not_asleep : is_listed (notified_at objects o) t ≡ true → waits_on (w.words (Waiting t)) o ≡ true → ⊥
  not_asleep called waits = elim (notified_are_told heap w objects t o limits comes history called) [
    | inl says ↦ not_both (w.words (Waiting t)) o waits says
    | inr ready ↦ let zero_waits = ap (λ n. waits_on n o) ready.0 in not_ready o (sym zero_waits ∙ waits)
  ]

  pub not_untold : waits_at objects o ≡ [] → notified_at objects o ≡ [] → says_notified (w.words (Waiting t)) o ≡ true → ⊥
  not_untold none nobody says = elim (told_are_notified heap w objects t o limits comes history says) [
    | inl called ↦ none_listed (notified_at objects o) t nobody called
    | inr waits ↦ none_listed (waits_at objects o) t none waits.0
  ]

  pub not_free : is_halted (w.words Safepoint) ≡ true → is_listed (notified_at objects o) t ≡ true → (monitor_of objects o).owner ≡ None → ⊥
  not_free halted called free =
      let another = halted_face_another heap w objects t o limits comes history halted called in
      let unowned = ap (λ x. is_thread x another.0) free in
      let owned = another.2 in
      absurd (cc (owned, unowned))

pub not_forgotten : (heap : Heap) (w v : World) (xs : List (ℕ × StepMade)) (objects after : List PlainObject) (t o : ℕ)
    → IsInLimits heap.shape → IsReachable heap w → Leads w xs v → AreAfterLogs w objects → AreAfterLogs v after
    → is_listed (notified_at objects o) t ≡ true
    → resumes_of o (v.known t).log ≡ resumes_of o (w.known t).log → notified_at after o ≡ [] → ⊥
not_forgotten heap w v xs objects after t o limits comes leads was is called none nobody =
    none_listed (notified_at after o) t nobody (notified_stay heap w v xs objects after t o limits comes leads was is called none)
