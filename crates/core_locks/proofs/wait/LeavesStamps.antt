-- How large stamps are, and that whoever waits on an object has a stamp within the object's bound.
use Rattle.core_locks.proofs.Prelude.{◌≡◌, ℕ, zero, suc, ◌+◌, ◌<◌, ◌≤◌, ◌^◌, ◌==◌, Bool, true, false, cond, List, [], ◌∷◌, length, Some, refl}
use Rattle.core_locks.proofs.Prelude.{ap, subst, arith, inl, inr, ◌*◌, same_Some, AllByRecursion, cases_lt, PlainObject, Logged, last_stamp}
use Rattle.core_locks.proofs.Prelude.{log_of, order, of_thread, thread_kept, bound_to, Stamp, Waiting, waits_on, stamp_in, ThreadView, World}
use Rattle.core_locks.proofs.Prelude.{logs, logs_from, monitor_of, Fits, last_entry, bound_stamp, entries, log_limit, log_at}
use Rattle.plain_monitor.specs.declared.entry.Entry.TheVariants as entry

-- the number of entries of n logs, none of which is longer than the limit
pub entries_few : (u n : ℕ) (f : ℕ → ThreadView) → ((z : ℕ) → length (f z).log ≤ log_limit) → entries (logs_from u n f) ≤ n * log_limit
entries_few u zero f h = omega arith
entries_few u (suc n) f h = let a = h u in let b = entries_few (u + 1) n f h in omega (arith, a, b)

-- a stamp that is one more than a last one fits into a waiting word
pub next_fits : (w : World) (P : List PlainObject) (t : ℕ) → Fits w P → last_stamp (w.known t).log + 1 < 2 ^ 46
next_fits w P t v = omega (arith, v.stamps.logged t, entries_few 0 w.shape.threads w.known v.lengths.few, v.limits.threads)

-- what holds of all entries holds of a thread's own
all_of_thread : (Z : Logged → Type 0) (u : ℕ) (xs : List (ℕ × Logged)) → AllByRecursion (λ x. Z x.1) xs → AllByRecursion Z (of_thread u xs)
all_of_thread Z u [] a = tt
all_of_thread Z u (x ∷ xs) a = at_head (x.0 == u) a.0 (all_of_thread Z u xs a.1)
  where
    at_head : (b : Bool) → Z x.1 → AllByRecursion Z (of_thread u xs) → AllByRecursion Z (cond b (x.1 ∷ of_thread u xs) (of_thread u xs))
    at_head true here rest = (here, rest)
    at_head false here rest = rest

-- what holds of all entries of a log holds of the last
all_last : (Z : Logged → Type 0) (log : List Logged) (y : Logged) → AllByRecursion Z log → last_entry log ≡ Some y → Z y
all_last Z [] y a e = absurd (cc e)
all_last Z (l ∷ []) y a e = subst Z (same_Some l y e) a.0
all_last Z (l ∷ m ∷ log) y a e = all_last Z (m ∷ log) y a.1 e

-- no entry of a thread's log that is bound to an object has a stamp above the object's bound
pub all_of_log : (w : World) (P : List PlainObject) (u o : ℕ) → Fits w P
    → AllByRecursion (λ l. bound_to l.entry ≡ Some o
    → l.stamp ≤ bound_stamp (λ z. (w.known z).log) (w.words (Stamp o)) (monitor_of P o).owner) (log_of (logs w) u)
all_of_log w P u o v =
    let Z : Logged → Type 0 = λ l. bound_to l.entry ≡ Some o → l.stamp ≤ bound_stamp (λ z. (w.known z).log) (w.words (Stamp o)) (monitor_of P o).owner in
    subst (AllByRecursion Z) (thread_kept (logs w) u v.legal.rises) (all_of_thread Z u (order (logs w)) (v.stamps.bound o))

-- nor has its last entry
pub last_bounded : (w : World) (P : List PlainObject) (u o : ℕ) (y : Logged) → Fits w P → last_entry (w.known u).log ≡ Some y → bound_to y.entry ≡ Some o
    → y.stamp ≤ bound_stamp (λ z. (w.known z).log) (w.words (Stamp o)) (monitor_of P o).owner
last_bounded w P u o y v e b =
    let Z : Logged → Type 0 = λ l. bound_to l.entry ≡ Some o → l.stamp ≤ bound_stamp (λ z. (w.known z).log) (w.words (Stamp o)) (monitor_of P o).owner in
    all_last Z (w.known u).log y (subst (AllByRecursion Z) (log_at 0 w.shape.threads u u w.known (omega arith) there) (all_of_log w P u o v)) e b
  where
    -- a thread that the heap lacks has logged nothing
    there : u < w.shape.threads
    there = elim (cases_lt u w.shape.threads) [
      | inl h ↦ h
      | inr h ↦ let none = ap (λ (k : ThreadView). last_entry k.log) (v.absent u h) in absurd (cc (none, e))
    ]

-- whoever waits on an object has a stamp within its bound
pub waiter_bounded : (w : World) (P : List PlainObject) (u o : ℕ) → Fits w P → waits_on (w.words (Waiting u)) o ≡ true
    → stamp_in (w.words (Waiting u)) ≤ bound_stamp (λ z. (w.known z).log) (w.words (Stamp o)) (monitor_of P o).owner
waiter_bounded w P u o v h = last_bounded w P u o (record { stamp = stamp_in (w.words (Waiting u)); entry = entry.Wait o }) v (v.waits.stamped u o h) refl
