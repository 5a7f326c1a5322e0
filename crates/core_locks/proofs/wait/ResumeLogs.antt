-- A thread that was notified and has the object's monitor again loads the object's stamp, and so logs its Resume.
use Rattle.core_locks.proofs.Prelude.{◌≡◌, ℕ, ◌+◌, ◌<◌, ◌||◌, true, false, cond, List, Some, None, refl, sym, ap, ◌∙◌, arith, inl, inr, is_none}
use Rattle.core_locks.proofs.Prelude.{or-true, same_Some, PlainMonitor, is_thread, is_listed, count_of, only_if, without, resume, resumed}
use Rattle.core_locks.proofs.Prelude.{PlainObject, with_monitor, Resume, Recursions, monitor_in, bears, hold_words_ahead, World, OwnedBy, lock}
use Rattle.core_locks.proofs.Prelude.{marks, displaced_words, recursion_count, holds_by_monitor, object_of, monitor_of, owner_at, waits_at}
use Rattle.core_locks.proofs.Prelude.{notified_at, or_zero, IsOwnMonitor, CallContext, Fits, same_number, sound, unlisted_count, outside_standing}
use Rattle.core_locks.proofs.Prelude.{listed_count, owner_standing, fits_running, MayLogResume, LogsValid, log_resume_plan, lets_go, IsOwnEntry, []}
use Rattle.core_locks.proofs.enter_exit.HoldWays.{saw_inflated}
use Rattle.core_locks.proofs.WaitOut.{fails}
use Rattle.core_locks.proofs.enter_exit.EnterTakes.{IsTaking, IsTakingAt, ready_unwaiting, owner_or_taker}
use Rattle.core_locks.proofs.enter_exit.EnterFits.{taking_logs}
use Rattle.plain_history.proofs.Without.{listed_has_count, without_unlisted, without_others}

module _ (w : World) (P : List PlainObject) (t o m : ℕ) (within : t < w.shape.threads) (may : MayLogResume w.shape (w.known t) o m) (v : Fits w P) where
  borne : bears (w.known t).stage o ≡ true
  borne = ap (λ s. bears s o) may.stage ∙ same_number o

  -- the thread was notified
  pub called : is_listed (notified_at P o) t ≡ true
  called = v.waits.resuming t o may.stage

  unwaiting : is_listed (waits_at P o) t ≡ false
  unwaiting = ready_unwaiting w P t v may.ready o

  -- so it isn't the owner yet, since each stands once at a monitor
  not_owner : owner_at P o t ≡ false
  not_owner = fails _ (λ h.
      let stands = owner_standing (monitor_of P o) t (sound w P v o) h in
      let owns = ap (λ b. cond b (monitor_of P o).count 0) h in
      let counts = listed_count (notified_at P o) t (sound w P v o).called called in omega (arith, stands, owns, counts))

  unowned : (monitor_of P o).owner ≡ None
  unowned = elim (owner_or_taker w P t o v borne (monitor_of P o).owner refl) [
    | inl h ↦ h
    | inr h ↦ absurd (cc (not_owner, ap (λ b. is_thread b t) h ∙ same_number t))
  ]

  -- the count that it had when it began to wait
  abbrev n : ℕ
  n = (listed_has_count (notified_at P o) t called).0

  count : count_of (notified_at P o) t ≡ Some (listed_has_count (notified_at P o) t called).0
  count = (listed_has_count (notified_at P o) t called).1

  -- the plain monitor afterwards
  abbrev pub after : PlainMonitor
  after = record (monitor_of P o) { owner = Some t; count = (listed_has_count (notified_at P o) t called).0; called = without (notified_at P o) t }

  resumes : resume (monitor_of P o) t ≡ Some after
  resumes = ap (resumed (monitor_of P o) t) count ∙ ap (λ b. only_if (is_none b) after) unowned

  number : holds_by_monitor after t ≡ holds_by_monitor (monitor_of P o) t + hold_words_ahead (w.known t).stage o
  number =
      let waits = unlisted_count (waits_at P o) t unwaiting in
      let gone = unlisted_count (without (notified_at P o) t) t (without_unlisted (notified_at P o) t) in
      let before = outside_standing (monitor_of P o) t not_owner in
      omega (arith, waits, gone, ap (λ b. cond b n 0) (same_number t), before, ap or_zero count, ap (λ s. hold_words_ahead s o) may.stage)

  -- the mark names the monitor that the thread saw, which is its own
  mark : monitor_in (marks w o) ≡ Some m
  mark = saw_inflated w P t o may.runs v m may.inflated

  own : IsOwnMonitor w (w.known t) (owner_at P) t m
  own = (o, mark, ap (λ b. owner_at P o t || b) borne ∙ or-true (owner_at P o t))

  -- the recursions are still what it saved: how many of its records were made through the monitor
  recursions : (b : ℕ) → monitor_in (marks w o) ≡ Some b → lock w o ≡ OwnedBy t
      → w.words (Recursions b) ≡ recursion_count o (displaced_words w t) (w.known t).holds
  recursions b h g =
      let same : b ≡ m = same_Some _ _ (sym h ∙ mark) in
      ap (λ c. w.words (Recursions c)) same ∙ v.seen.stays t (Recursions m) (w.known t).saved may.recursions (inl (may.runs, inr own))
      ∙ v.recursions.waiting o t (inr called)

  pub is_taking : IsTaking w P t o (Resume o) after
  is_taking =
      let even : (monitor_of P o).owner ≡ Some t → lets_go (w.known t).unfinished o ≡ false = λ h. absurd (cc (unowned, h)) in
      let stage : IsTakingAt (w.known t).stage o = inr may.stage in
      let own_entry : IsOwnEntry (w.known t) (Resume o) = record { operation = inr (v.waits.unfinished t o (inr called)); shot = tt } in
      let nobody : notified_at P o ≡ [] → without (notified_at P o) t ≡ [] = λ h. ap (λ ps. without ps t) h in
      let takes = ap (with_monitor (object_of P o)) resumes in
      let gone = without_unlisted (notified_at P o) t in
      search (within, stage, takes, even, own_entry, number, gone, without_others (notified_at P o) t, nobody, recursions, may)

pub logging_a_resume : (e : CallContext) (o m : ℕ) → LogsValid (λ w t. MayLogResume w.shape (w.known t) o m) (λ w t. log_resume_plan e o) (Resume o)
logging_a_resume e o m w P t within may valid =
    let v = fits_running w P t may.runs valid in
    taking_logs w P t o (Resume o) e (after w P t o m within may v) (is_taking w P t o m within may v) v
