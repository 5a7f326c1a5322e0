-- The plain objects take the Wait: the thread owns the object no more, and stands last among those who wait.
use Rattle.core_locks.proofs.Prelude.{◌≡◌, ◌≢◌, ℕ, ◌+◌, ne_eqb, true, false, cond, List, [], ◌∷◌, ◌++◌, slice_set, Some, None}
use Rattle.core_locks.proofs.Prelude.{refl, sym, ap, ◌∙◌, arith, inl, inr, same_Some, PlainMonitor, is_thread, is_listed, owns}
use Rattle.core_locks.proofs.Prelude.{only_if, PlainObject, take_entry, with_monitor, Logged, last_stamp, bears, ThreadView}
use Rattle.core_locks.proofs.Prelude.{World, who, holder, hold_count, holds_by_monitor, object_of, monitor_of, owner_at, waits_at}
use Rattle.core_locks.proofs.Prelude.{notified_at, or_zero, Fits, by_equal, thread_is, unlisted_count, subst}
use Rattle.plain_monitor.specs.declared.entry.Entry.TheVariants as entry
use Rattle.core_locks.proofs.Logging.{IsLogging, next_logging}
use Rattle.core_world.proofs.Updates.{takes, monitor_here, each_object, part_stays}
use Rattle.core_locks.proofs.WaitOut.{no_other, out_unlisted}
use Rattle.core_locks.proofs.wait.LeavesLists.{listed_forth, listed_last, listed_back, count_last, count_else}
use Rattle.core_locks.proofs.wait.LeavesStates.{IsLeaving}

-- the monitor after the owner t went to wait
abbrev pub left_monitor : PlainMonitor → ℕ → PlainMonitor
left_monitor m t = record m { owner = None; count = 0; waits = m.waits ++ (t, m.count) ∷ [] }

abbrev pub left_object : PlainObject → ℕ → PlainObject
left_object z t = record z { monitor = left_monitor z.monitor t }

-- the objects after t went to wait on o
abbrev pub left_objects : List PlainObject → ℕ → ℕ → List PlainObject
left_objects P o t = slice_set P o (left_object (object_of P o) t)

-- the entry as it is logged
abbrev pub wait_entry : ThreadView → ℕ → Logged
wait_entry k o = record { stamp = last_stamp k.log + 1; entry = entry.Wait o }

module _ {w : World} {P : List PlainObject} {o m t : ℕ} (v : Fits w P) (s : IsLeaving w P o m t) where
  pub owner_before : (monitor_of P o).owner ≡ Some t
  owner_before = thread_is (monitor_of P o).owner t s.owner

  -- the thread stands on no list yet
  pub unlisted : (i : ℕ) → (is_listed (waits_at P i) t ≡ false) × (is_listed (notified_at P i) t ≡ false)
  unlisted i = out_unlisted w P t v s.out (λ j e. absurd (cc (e, s.calm))) i

  pub taken : take_entry P t (entry.Wait o) ≡ Some (left_objects P o t)
  taken =
      takes P o t (entry.Wait o) (left_object (object_of P o) t) s.object refl
      (ap (λ b. with_monitor (object_of P o) (only_if b (left_monitor (monitor_of P o) t))) s.owner)

  -- a fact of each object afterwards
  pub at_object : (F : ℕ → PlainObject → Type 0) → F o (left_object (object_of P o) t) → ((i : ℕ) → i ≢ o → F i (object_of P i)) → (i : ℕ)
      → F i (object_of (left_objects P o t) i)
  at_object F = each_object F P o (left_object (object_of P o) t) s.object

  -- o has no owner, and every other object the one that it had
  pub owner_back : (i u : ℕ) → owner_at (left_objects P o t) i u ≡ true → (i ≢ o) × (owner_at P i u ≡ true)
  owner_back i u = at_object (λ i y. owns y.monitor u ≡ true → (i ≢ o) × (owner_at P i u ≡ true)) (λ e. absurd (cc e)) (λ i d e. (d, e)) i

  pub owner_fails : (i u : ℕ) → (i ≢ o → owner_at P i u ≡ false) → owner_at (left_objects P o t) i u ≡ false
  owner_fails i u e = at_object (λ i y. (i ≢ o → owner_at P i u ≡ false) → owns y.monitor u ≡ false) (λ g. refl) (λ i d g. g d) i e

  -- the new one waits on o, and who else waits did so before
  pub each_waiter : (F : ℕ → ℕ → Type 0) → F o t → ((i u : ℕ) → is_listed (waits_at P i) u ≡ true → F i u) → (i u : ℕ)
      → is_listed (waits_at (left_objects P o t) i) u ≡ true → F i u
  each_waiter F here before i u = at_object (λ i y. is_listed y.monitor.waits u ≡ true → F i u)
      (λ e. elim (listed_back (waits_at P o) t (monitor_of P o).count u e) [ inl b ↦ before o u b | inr b ↦ subst (F o) (sym b) here ]) (λ i d. before i u) i

  pub waits_still : (i u : ℕ) → is_listed (waits_at P i) u ≡ true → is_listed (waits_at (left_objects P o t) i) u ≡ true
  waits_still i u = at_object (λ i y. is_listed (waits_at P i) u ≡ true → is_listed y.monitor.waits u ≡ true)
      (listed_forth (waits_at P o) t (monitor_of P o).count u) (λ i d e. e) i

  pub waits_here : is_listed (waits_at (left_objects P o t) o) t ≡ true
  waits_here = ap (λ m. is_listed m.waits t) (monitor_here P o (left_object (object_of P o) t) s.object) ∙ listed_last (waits_at P o) t (monitor_of P o).count

  pub holder_is : who w o ≡ Some t
  holder_is = ap (λ f. holder f (λ z. hold_count o (w.known z).holds)) s.thread_owns

  -- no other thread owns o or is taking it
  pub others_out : (u : ℕ) → u ≢ t → (owner_at P o u ≡ false) × (bears (w.known u).stage o ≡ false)
  others_out u d = no_other w P o u v (ap (λ a. is_thread a u) holder_is ∙ ne_eqb t u (λ e. d (sym e)))

  -- nobody's number of plain holds changes: the thread's count goes from the owner's to that of one who waits
  pub stands_same : (i u : ℕ) → holds_by_monitor (monitor_of P i) u ≡ holds_by_monitor (monitor_of (left_objects P o t) i) u
  stands_same i u = part_stays (λ y. holds_by_monitor y.monitor u) P o (left_object (object_of P o) t) s.object (by_equal u t own other) i
    where
      own : u ≡ t → holds_by_monitor (left_monitor (monitor_of P o) t) u ≡ holds_by_monitor (monitor_of P o) u
      own e =
          let waits = ap or_zero (count_last (waits_at P o) t (monitor_of P o).count (unlisted o).0) in
          let none = unlisted_count (waits_at P o) t (unlisted o).0 in
          let owner = ap (λ b. cond b (monitor_of P o).count 0) s.owner in
          subst (λ z. holds_by_monitor (left_monitor (monitor_of P o) t) z ≡ holds_by_monitor (monitor_of P o) z) (sym e) (omega (arith, waits, none, owner))

      other : u ≢ t → holds_by_monitor (left_monitor (monitor_of P o) t) u ≡ holds_by_monitor (monitor_of P o) u
      other d =
          let waits = ap or_zero (count_else (waits_at P o) t (monitor_of P o).count u d) in
          omega (arith, waits, ap (λ b. cond b (monitor_of P o).count 0) (others_out u d).0)

  -- what the entry is above, and why it may be logged
  pub is_logging : (l : ThreadView) → l.log ≡ (w.known t).log ++ wait_entry (w.known t) o ∷ []
      → IsLogging w P (left_objects P o t) t (wait_entry (w.known t) o) l
  is_logging l grows =
      next_logging s.within grows taken (record { operation = inr s.waits; shot = tt }) refl
      (λ i e. ap (λ j. (monitor_of P j).owner) (sym (same_Some o i e)) ∙ owner_before)
