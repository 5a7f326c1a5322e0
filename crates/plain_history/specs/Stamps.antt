-- Bounds on the stamps of an object's entries, which a caller can keep and compare with.
use Rattle.std.specs.Prelude.{◌≡◌, ◌≢◌, ℕ, ◌<◌, ◌≤◌, List, length, slice_index, slice_get, Option, Some, None}
use Rattle.std.specs.List.{AllByRecursion}
use Rattle.plain_monitor.specs.declared.entry.Logged.{Logged}
use Rattle.plain_monitor.specs.Objects.{PlainObject}
use Rattle.plain_monitor.specs.Order.{order}
use Rattle.plain_monitor.specs.History.{last_stamp, log_of, appended}
use Rattle.plain_history.specs.Tied.{bound_to}

-- no entry that is bound to object o has a stamp above s
abbrev pub IsBounded : List (List Logged) → ℕ → ℕ → Type 0
IsBounded logs o s = AllByRecursion (λ x. bound_to x.1.entry ≡ Some o → x.1.stamp ≤ s) (order logs)

-- the bound of object o: its owner's last stamp, or where it has no owner the stamp that is kept for it
abbrev pub bound_of : List (List Logged) → List ℕ → ℕ → Option ℕ → ℕ
bound_of logs kept o None = slice_index kept o
bound_of logs kept o (Some t) = last_stamp (log_of logs t)

-- each object's bound holds, where these stamps are kept for the objects
abbrev pub StampsBound : List PlainObject → List (List Logged) → List ℕ → Type 0
StampsBound objects logs kept =
    (o : ℕ) (x : PlainObject) → slice_get objects o ≡ Some x
    → IsBounded logs o (bound_of logs kept o x.monitor.owner)

-- thread t is there, and l is above all that it has logged and above the bound of the object that it is bound to
pub record IsAboveBounds (objects : List PlainObject) (logs : List (List Logged)) (kept : List ℕ) (t : ℕ)
    (l : Logged) : Type 0 where
  pub thread : t < length logs
  pub stamp : last_stamp (log_of logs t) < l.stamp
  pub bound : (o : ℕ) (x : PlainObject) → bound_to l.entry ≡ Some o → slice_get objects o ≡ Some x
      → bound_of logs kept o x.monitor.owner < l.stamp

-- what is kept now is no less than before for other objects, and the new bound of an entry's own object is no less than its stamp
pub record BoundsRise (after : List PlainObject) (logs : List (List Logged)) (kept now : List ℕ) (t : ℕ) (l : Logged) : Type 0 where
  pub others : (o : ℕ) → bound_to l.entry ≢ Some o → slice_index kept o ≤ slice_index now o
  pub own : (o : ℕ) (z : PlainObject) → bound_to l.entry ≡ Some o → slice_get after o ≡ Some z → l.stamp ≤ bound_of (appended logs t l) now o z.monitor.owner
