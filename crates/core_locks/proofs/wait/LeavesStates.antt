-- What is so of the world where a thread may log its Wait, by what it knows, and what it knows afterwards.
use Rattle.core_locks.proofs.Prelude.{◌≡◌, ℕ, ◌+◌, ◌<◌, ◌≤◌, ◌||◌, true, List, length, Some, sym, ap, ◌∙◌, arith, inl, inr, wait_of}
use Rattle.core_locks.proofs.Prelude.{PlainObject, last_stamp, Stamp, Recursions, Settled, monitor_in, bears, recursions_ahead}
use Rattle.core_locks.proofs.Prelude.{recursions_lowered, ThreadView, World, OwnedBy, lock, marks, displaced_words, hold_count, recursion_count}
use Rattle.core_locks.proofs.Prelude.{monitor_of, owner_at, IsOwnMonitor, CallContext, Fits, IsUnfinished, log_limit, IsOut, MayWait}
use Rattle.mark_word.specs.declared.wait.WaitForm.TheVariants as wait
use Rattle.core_world.specs.declared.heap_call.Operation.TheVariants as op
use Rattle.core_locks.proofs.enter_exit.HoldWays.{saw_inflated, saw_thread_owns}
use Rattle.core_locks.proofs.WaitOut.{holder_owns, ready_is_out}

-- Thread t holds o, whose monitor is m, and is ready to wait there.
pub record IsLeaving (w : World) (P : List PlainObject) (o m t : ℕ) : Type 0 where
  pub within : t < w.shape.threads
  pub object : o < length P
  pub runs : (w.known t).running ≡ true
  pub calm : (w.known t).stage ≡ Settled
  pub out : IsOut (w.known t)
  -- it is the plain owner
  pub owner : owner_at P o t ≡ true
  -- and has the lock through the monitor, whose recursions it has saved
  pub inflated : monitor_in (marks w o) ≡ Some m
  pub thread_owns : lock w o ≡ OwnedBy t
  pub saved : (w.known t).saved ≡ recursion_count o (displaced_words w t) (w.known t).holds
  -- the stamp word is no less than the stamp of its next entry
  pub raised : last_stamp (w.known t).log + 1 ≤ w.words (Stamp o)
  pub waits : IsUnfinished (w.known t).unfinished op.Wait o
  pub room : length (w.known t).log < log_limit

-- the word that it stores
abbrev pub waiting_word : ThreadView → ℕ → ℕ
waiting_word k o = wait_of (wait.Waiting o (last_stamp k.log + 1))

module _ (w : World) (P : List PlainObject) (t : ℕ) (e : CallContext) (o m stamp : ℕ)
    (within : t < w.shape.threads) (may : MayWait w.shape (w.known t) e o m stamp) (v : Fits w P) where
  out : IsOut (w.known t)
  out = ready_is_out (w.known t) may.ready

  owns : (owner_at P o t ≡ true) × (hold_count o (w.known t).holds ≡ (monitor_of P o).count)
  owns = holder_owns w P t v out o may.calm may.holds

  -- the words are as it saw them in this call: the mark, since it is inflated
  mark_is : monitor_in (marks w o) ≡ Some m
  mark_is = saw_inflated w P t o may.runs v m may.inflated

  -- the recursions, since it is the monitor of an object that the thread owns
  own : IsOwnMonitor w (w.known t) (owner_at P) t m
  own = (o, mark_is, ap (λ b. b || bears (w.known t).stage o) owns.0)

  recursions_are : w.words (Recursions m) ≡ (w.known t).saved
  recursions_are = v.seen.stays t (Recursions m) (w.known t).saved may.recursions (inl (may.runs, inr own))

  thread_owns : lock w o ≡ OwnedBy t
  thread_owns = saw_thread_owns w P t o may.runs v m (omega (arith, within, v.limits.threads)) owns.0 may.inflated may.owner

  saved : (w.known t).saved ≡ recursion_count o (displaced_words w t) (w.known t).holds
  saved =
      let a = v.recursions.owned o m t mark_is thread_owns (λ s. absurd (cc (s, may.calm))) (λ s. absurd (cc (s, may.calm))) in
      omega (arith, a, ap (λ s. recursions_lowered s o) may.calm, ap (λ s. recursions_ahead s o) may.calm, recursions_are)

  pub leaving : IsLeaving w P o m t
  leaving =
      let object : o < length P = omega (arith, v.sized, may.object.within) in
      let word : w.words (Stamp o) ≡ stamp = v.seen.stays t (Stamp o) stamp may.stamped (inl (may.runs, owns.0)) in
      let raised : last_stamp (w.known t).log + 1 ≤ w.words (Stamp o) = omega (arith, word, may.high) in
      search (within, object, out, owns, mark_is, thread_owns, saved, raised, sym may.goes_on ∙ may.waits, may)
