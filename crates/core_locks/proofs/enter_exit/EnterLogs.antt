-- A thread whose new hold word stands loads the object's stamp, and so logs its Enter.
use Rattle.core_locks.proofs.Prelude.{◌≡◌, ◌⊎◌, ℕ, ◌+◌, ◌<◌, false, cond, List, Option, Some, None, refl, ap, ◌∙◌, arith, inl, inr, PlainMonitor}
use Rattle.core_locks.proofs.Prelude.{is_thread, is_listed, enter, PlainObject, with_monitor, Enter, Path, Recursions, Resumes, monitor_in, bears}
use Rattle.core_locks.proofs.Prelude.{hold_words_ahead, recursions_ahead, recursions_lowered, one_if, World, OwnedBy, lock, marks, displaced_words}
use Rattle.core_locks.proofs.Prelude.{recursion_count, holds_by_monitor, object_of, monitor_of, waits_at, notified_at, CallContext, Fits, lets_go}
use Rattle.core_locks.proofs.Prelude.{same_number, sound, unlisted_count, unowned_count, fits_running, MayLogEnter, LogsValid, log_enter_plan}
use Rattle.core_locks.proofs.WaitOut.{out_unlisted, out_standing, ready_is_out}
use Rattle.core_locks.proofs.enter_exit.EnterTakes.{IsTaking, IsTakingAt, owner_or_taker}
use Rattle.core_locks.proofs.enter_exit.EnterFits.{taking_logs}

module _ (w : World) (P : List PlainObject) (t o p : ℕ) (path : Path) (within : t < w.shape.threads)
    (may : MayLogEnter w.shape (w.known t) o p path) (v : Fits w P) where
  -- the plain monitor afterwards
  abbrev pub m : PlainMonitor
  m = record (monitor_of P o) { owner = Some t; count = (monitor_of P o).count + 1 }

  not_resuming : (i : ℕ) → (w.known t).stage ≡ Resumes i → ⊥
  not_resuming i h = absurd (cc (may.stage, h))

  unlisted : (is_listed (waits_at P o) t ≡ false) × (is_listed (notified_at P o) t ≡ false)
  unlisted = out_unlisted w P t v (ready_is_out (w.known t) may.ready) not_resuming o

  owner_is : (b : Option ℕ) → (monitor_of P o).owner ≡ b → (b ≡ None) ⊎ (b ≡ Some t)
  owner_is = owner_or_taker w P t o v (ap (λ s. bears s o) may.stage ∙ same_number o)

  free_count : (monitor_of P o).owner ≡ None → (monitor_of P o).count ≡ 0
  free_count = unowned_count (monitor_of P o) (sound w P v o)

  -- the thread enters a free monitor, or enters its own again
  enters : enter (monitor_of P o) t ≡ Some m
  enters = elim (owner_is (monitor_of P o).owner refl) [
    | inl h ↦
        let none = free_count h in rw (h, unlisted.0, unlisted.1, none) refl
    | inr h ↦ rw (h, same_number t) refl
  ]

  -- it holds once more by the plain monitor, and has no hold word besides those any more
  number : holds_by_monitor m t ≡ holds_by_monitor (monitor_of P o) t + hold_words_ahead (w.known t).stage o
  number =
      let waits = unlisted_count (waits_at P o) t unlisted.0 in
      let called = unlisted_count (notified_at P o) t unlisted.1 in
      let now = ap (λ b. cond b ((monitor_of P o).count + 1) 0) (same_number t) in
      let more : hold_words_ahead (w.known t).stage o ≡ 1 = ap (λ s. hold_words_ahead s o) may.stage ∙ ap one_if (same_number o) in
      let before = out_standing w P t v (ready_is_out (w.known t) may.ready) o (not_resuming o) in
      elim (owner_is (monitor_of P o).owner refl) [
        | inl h ↦ let none = ap (λ b. cond (is_thread b t) (monitor_of P o).count 0) h in omega (arith, waits, called, now, more, before, none, free_count h)
        | inr h ↦
            let own = ap (λ b. cond (is_thread b t) (monitor_of P o).count 0) h ∙ ap (λ b. cond b (monitor_of P o).count 0) (same_number t) in
            omega (arith, waits, called, now, more, before, own)
      ]

  recursions : (b : ℕ) → monitor_in (marks w o) ≡ Some b → lock w o ≡ OwnedBy t
      → w.words (Recursions b) ≡ recursion_count o (displaced_words w t) (w.known t).holds
  recursions b h g =
      let before = v.recursions.owned o b t h g (λ s. absurd (cc (may.stage, s))) (not_resuming o) in
      omega (arith, before, ap (λ s. recursions_lowered s o) may.stage, ap (λ s. recursions_ahead s o) may.stage)

  pub is_taking : IsTaking w P t o (Enter o path) m
  is_taking =
      let even : (monitor_of P o).owner ≡ Some t → lets_go (w.known t).unfinished o ≡ false =
      λ h. elim may.own_entry.operation [ inl none ↦ ap (λ u. lets_go u o) none | inr works ↦ ap (λ u. lets_go u o) works ] in
      let stage : IsTakingAt (w.known t).stage o = inl (p, path, may.stage) in
      search (within, stage, ap (with_monitor (object_of P o)) enters, even, number, unlisted, recursions, may)

pub logging_an_enter : (e : CallContext) (o p : ℕ) (path : Path)
    → LogsValid (λ w t. MayLogEnter w.shape (w.known t) o p path) (λ w t. log_enter_plan e o path) (Enter o path)
logging_an_enter e o p path w P t within may valid =
    let v = fits_running w P t may.runs valid in
    taking_logs w P t o (Enter o path) e (m w P t o p path within may v) (is_taking w P t o p path within may v) v
