-- The Exit that a step logs, as the plain objects take it from their owner, and what the thread has seen of its own displaced words.
use Rattle.core_locks.proofs.Prelude.{◌≡◌, ℕ, ◌+◌, ◌<◌, ◌==◌, true, List, [], ◌∷◌, ◌++◌, length, slice_set, Some, refl, sym, ap}
use Rattle.core_locks.proofs.Prelude.{◌∙◌, inl, same_Some, PlainMonitor, exit, PlainObject, take_entry, with_monitor, Logged}
use Rattle.core_locks.proofs.Prelude.{last_stamp, Exit, WordId, Displaced, inflation_in, ThreadView, last_seen, World, logs, Lock}
use Rattle.core_locks.proofs.Prelude.{lock, header, inflations, object_of, monitor_of, hash_at, waits_at, notified_at, inflated_to}
use Rattle.core_locks.proofs.Prelude.{Fits, inflations_stay, IsOwnEntry, is_thread, owner_at, owns, by_equal, false, ◌≢◌}
use Rattle.core_locks.proofs.Logging.{IsLogging, next_logging}
use Rattle.core_locks.proofs.Clauses.{Parts, parts_of}
use Rattle.core_locks.proofs.Steps.{Fields, IsStep, next, stepped, logs_next}
use Rattle.core_world.proofs.Updates.{monitor_here, monitor_else, takes, hashes_stay, slots_stay, waits_stay, called_stay}
use Rattle.core_locks.proofs.WaitOut.{fails}

abbrev pub exit_entry : ThreadView → ℕ → Logged
exit_entry k o = record { stamp = last_stamp k.log + 1; entry = Exit o }

-- the object o with this monitor, and the objects where it has that
abbrev pub object_with : List PlainObject → ℕ → PlainMonitor → PlainObject
object_with P o monitor = record { monitor = monitor; slots = (object_of P o).slots; hash = (object_of P o).hash }

abbrev pub objects_where : List PlainObject → ℕ → PlainMonitor → List PlainObject
objects_where P o monitor = slice_set P o (object_with P o monitor)

-- the objects take the Exit where the monitor of o does
pub exit_taken : (P : List PlainObject) (o t : ℕ) (monitor : PlainMonitor) → o < length P
    → exit (monitor_of P o) t ≡ Some monitor → take_entry P t (Exit o) ≡ Some (objects_where P o monitor)
exit_taken P o t monitor inside exits = takes P o t (Exit o) (object_with P o monitor) inside refl (ap (with_monitor (object_of P o)) exits)

-- THE OWNERS then, where who owns o afterwards owned it
module _ (P : List PlainObject) (o : ℕ) (m : PlainMonitor) (inside : o < length P) (fewer : (u : ℕ) → is_thread m.owner u ≡ true → owner_at P o u ≡ true) where
  pub owner_here : (u : ℕ) → owner_at (objects_where P o m) o u ≡ is_thread m.owner u
  owner_here u = ap (λ a. owns a u) (monitor_here P o (object_with P o m) inside)

  pub owner_else : (i u : ℕ) → i ≢ o → owner_at (objects_where P o m) i u ≡ owner_at P i u
  owner_else i u d = ap (λ a. owns a u) (monitor_else P o i (object_with P o m) d)

  pub owner_before : (i u : ℕ) → owner_at (objects_where P o m) i u ≡ true → owner_at P i u ≡ true
  owner_before i u h =
      by_equal i o
      (λ s. ap (λ j. owner_at P j u) s ∙ fewer u (sym (owner_here u) ∙ ap (λ j. owner_at (objects_where P o m) j u) (sym s) ∙ h))
      (λ n. sym (owner_else i u n) ∙ h)

  pub owner_fails : (i u : ℕ) → owner_at P i u ≡ false → owner_at (objects_where P o m) i u ≡ false
  owner_fails i u h = fails _ (λ g. cc (owner_before i u g, h))

-- the stamp of the owner's entry is above its last one, which bounds the entries on the object
pub exit_logging : (w : World) (P Q : List PlainObject) (t o : ℕ) (l : ThreadView)
    → t < w.shape.threads → (monitor_of P o).owner ≡ Some t → take_entry P t (Exit o) ≡ Some Q
    → l.log ≡ (w.known t).log ++ exit_entry (w.known t) o ∷ [] → IsOwnEntry (w.known t) (Exit o) → IsLogging w P Q t (exit_entry (w.known t) o) l
exit_logging w P Q t o l within owner taken grows own = next_logging within grows taken own refl
    (λ i b. ap (λ j. (monitor_of P j).owner) (sym (same_Some o i b)) ∙ owner)

-- a displaced word of its own is as a running thread last saw it
pub own_displaced : (w : World) (P : List PlainObject) (t p h : ℕ) → Fits w P
    → (w.known t).running ≡ true → last_seen (Displaced (w.known t).thread p) (w.known t).seen ≡ Some h
    → w.words (Displaced t p) ≡ h
own_displaced w P t p h v runs seen =
    ap (λ u. w.words (Displaced u p)) (sym (v.numbered t)) ∙ v.seen.stays t (Displaced (w.known t).thread p) h seen (inl (runs, inl (v.numbered t)))

-- THE PARTS after a step by which the monitor of o becomes m, which lists the same threads: these are the locks, and each named monitor and each
-- header is as it was
abbrev pub exit_parts : World → World → List PlainObject → (ℕ → Lock) → Parts → Parts
exit_parts w x P locks p = record p {
  logs = logs x;
  inflated = inflated_to w;
  inflates = λ u. inflation_in (w.known u).stage;
  inflation = inflations w;
  lock = locks;
  header = header w;
  hash = hash_at P;
  waits = waits_at P;
  called = notified_at P;
  slots = λ i. (object_of P i).slots;
}

module _ {w : World} {t : ℕ} {l : ThreadView} {fields : Fields} (s : IsStep w t l fields) (f : WordId → ℕ)
    (P : List PlainObject) (o : ℕ) (m : PlainMonitor) (inside : o < length P) (waits : m.waits ≡ (monitor_of P o).waits)
    (called : m.called ≡ (monitor_of P o).called) where
  abbrev n : World
  n = next w t l fields f

  abbrev Q : List PlainObject
  Q = objects_where P o m

  pub exit_are : (locks : ℕ → Lock) → ((u : ℕ) → inflation_in (fields (u == t) l (w.known u)).stage ≡ inflation_in (w.known u).stage)
      → inflated_to (next w t l fields f) ≡ inflated_to w → lock (next w t l fields f) ≡ locks
      → header (next w t l fields f) ≡ header w → parts_of (next w t l fields f) (objects_where P o m)
      ≡ exit_parts w (stepped w t l f) P locks (parts_of (next w t l fields f) (objects_where P o m))
  exit_are locks inflates names lock_is header_is =
      let inflation : inflations n ≡ inflations w = inflations_stay w.shape.threads _ _ (λ j. λ u. inflates u j) in
      let z : PlainObject = object_with P o m in
      λ j. record (parts_of n Q) {
        logs = logs_next s f j;
        inflated = names j;
        inflates = λ u. inflates u j;
        inflation = inflation j;
        lock = lock_is j;
        header = header_is j;
        hash = sym (hashes_stay P o z inside refl) j;
        waits = sym (waits_stay P o z inside waits) j;
        called = sym (called_stay P o z inside called) j;
        slots = sym (slots_stay P o z inside refl) j;
      }
