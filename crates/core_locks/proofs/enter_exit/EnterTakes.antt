-- A running thread loads the stamp of an object that it is taking, and logs the entry by which it becomes the plain owner: an Enter or a
-- Resume. What both have in common beforehand.
use Rattle.core_locks.proofs.Prelude.{◌≡◌, ◌≢◌, ◌⊎◌, ℕ, ◌+◌, ◌<◌, true, false, List, [], length, Option, Some, None, refl, sym, ap, ◌∙◌, subst}
use Rattle.core_locks.proofs.Prelude.{inl, inr, PlainMonitor, is_thread, is_listed, count_of, PlainObject, take_at, Entry, Path, bound_to, Recursions}
use Rattle.core_locks.proofs.Prelude.{Stage, Enters, Resumes, monitor_in, waits_on, says_notified, bears, hold_words_ahead, World, OwnedBy, lock}
use Rattle.core_locks.proofs.Prelude.{marks, displaced_words, recursion_count, holds_by_monitor, object_of, monitor_of, owner_at, waits_at}
use Rattle.core_locks.proofs.Prelude.{notified_at, is_taking, Fits, lets_go, log_limit, by_equal, same_number, taken_alone, IsOwnEntry}
use Rattle.core_locks.proofs.WaitOut.{fails, out_word, ready_is_out}

-- at this stage the thread is about to log that it has o, by its Enter or its Resume
abbrev pub IsTakingAt : Stage → ℕ → Type 0
IsTakingAt s o = ((p : ℕ) × (path : Path) × (s ≡ Enters o p path)) ⊎ (s ≡ Resumes o)

-- what holds at both stages
pub at_taking : (F : Stage → Type 0) (s : Stage) (o : ℕ) → IsTakingAt s o → ((p : ℕ) (path : Path) → F (Enters o p path)) → F (Resumes o) → F s
at_taking F s o (inl a) f g = subst F (sym a.2) (f a.0 a.1)
at_taking F s o (inr a) f g = subst F (sym a) g

-- so it stands at no object's list of those who wait
pub ready_unwaiting : (w : World) (P : List PlainObject) (t : ℕ) → Fits w P → (w.known t).wait ≡ 0 → (i : ℕ) → is_listed (waits_at P i) t ≡ false
ready_unwaiting w P t v ready i =
    let out = ready_is_out (w.known t) ready in
    let word = out_word w P t v out in
    fails _ (λ h. elim (v.waits.waiting t i h) [
      | inl b ↦ absurd (cc ((out i).0, ap (λ n. waits_on n i) (sym word) ∙ b))
      | inr b ↦ absurd (cc ((out i).1, ap (λ n. says_notified n i) (sym word) ∙ b.0))
    ])

-- the plain owner of an object that a thread is taking is none, or that thread
pub owner_or_taker : (w : World) (P : List PlainObject) (t o : ℕ) → Fits w P → bears (w.known t).stage o ≡ true
    → (b : Option ℕ) → (monitor_of P o).owner ≡ b → (b ≡ None) ⊎ (b ≡ Some t)
owner_or_taker w P t o v borne None h = inl refl
owner_or_taker w P t o v borne (Some u) h =
    let owns : owner_at P o u ≡ true = ap (λ b. is_thread b u) h ∙ same_number u in
    by_equal u t (λ s. inr (ap Some s)) (λ d. absurd (cc (owns, (taken_alone w P o t u v borne d).1)))

-- Thread t may log the entry e by a load of the stamp of o, which it is taking, and the plain monitor of o then is m.
pub record IsTaking (w : World) (P : List PlainObject) (t o : ℕ) (e : Entry) (m : PlainMonitor) : Type 0 where
  pub within : t < w.shape.threads
  pub object : o < length w.shape.objects
  pub runs : (w.known t).running ≡ true
  pub stage : IsTakingAt (w.known t).stage o
  pub ready : (w.known t).wait ≡ 0
  pub room : length (w.known t).log < log_limit
  pub own_entry : IsOwnEntry (w.known t) e
  -- it hasn't raised the stamp to let go of o
  pub even : (monitor_of P o).owner ≡ Some t → lets_go (w.known t).unfinished o ≡ false
  -- the entry is stamped above the stamp that is loaded, and is bound to o, which takes it
  pub taking : is_taking e ≡ true
  pub tied : bound_to e ≡ Some o
  pub takes : take_at (object_of P o) t e ≡ Some (record (object_of P o) { monitor = m })
  -- it becomes the owner, with as many holds as it has hold words; the others wait and are called as before
  pub owner : m.owner ≡ Some t
  pub number : holds_by_monitor m t ≡ holds_by_monitor (monitor_of P o) t + hold_words_ahead (w.known t).stage o
  pub waits : m.waits ≡ (monitor_of P o).waits
  pub uncalled : is_listed m.called t ≡ false
  pub others : (u : ℕ) → u ≢ t → (is_listed m.called u ≡ is_listed (notified_at P o) u) × (count_of m.called u ≡ count_of (notified_at P o) u)
  pub nobody : notified_at P o ≡ [] → m.called ≡ []
  -- the recursions of o's monitor count its records
  pub recursions : (b : ℕ) → monitor_in (marks w o) ≡ Some b → lock w o ≡ OwnedBy t
      → w.words (Recursions b) ≡ recursion_count o (displaced_words w t) (w.known t).holds
