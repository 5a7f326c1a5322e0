-- When an entry finds what it needs, though it may land in the middle of the order: the New of each object that it needs stands before it. A
-- thread sees that from stamps: an object is known to it where no New of the object has a stamp above the thread's last.
use Rattle.std.specs.Prelude.{◌≡◌, ℕ, ◌<◌, ◌≤◌, ◌==◌, nat_lt, Bool, ◌||◌, true, false, List, [], ◌∷◌}
use Rattle.std.specs.Prelude.{◌++◌, length, IsTrue, slice_get, Option, Some, None, option_map}
use Rattle.std.specs.List.{AllByRecursion, list_any}
use Rattle.plain_monitor.specs.declared.entry.Entry.{Entry}
use Rattle.plain_monitor.specs.declared.entry.Logged.{Logged}
use Rattle.plain_monitor.specs.declared.entry.Value.TheVariants.{Nil, Ref}
use Rattle.plain_monitor.specs.declared.entry.Entry.TheVariants.{Get, New, Print}
use Rattle.plain_monitor.specs.Objects.{PlainObject}
use Rattle.plain_monitor.specs.Order.{is_before, order}
use Rattle.plain_monitor.specs.History.{last_stamp, log_of}
use Rattle.plain_monitor.specs.Made.{Numbering, first_made, creates, needs, is_there}
use Rattle.plain_history.specs.Stamps.{bound_of}

-- the object that an entry makes
abbrev pub makes : Entry → Option ℕ
makes e = option_map (λ p. p.0) (creates e)

-- that object is one of these
abbrev pub is_one_of : Option ℕ → List ℕ → Bool
is_one_of None os = false
is_one_of (Some o) os = list_any (λ i. o == i) os

-- the first makes an object that the second needs
abbrev pub makes_for : Entry → Entry → Bool
makes_for e f = is_one_of (makes e) (needs f)

-- thread t is there, and l is above all that it has logged and stands in the order after each entry that makes what it needs
pub record MayFollow (logs : List (List Logged)) (t : ℕ) (l : Logged) : Type 0 where
  pub thread : t < length logs
  pub stamp : last_stamp (log_of logs t) < l.stamp
  pub follows : AllByRecursion (λ x. IsTrue (makes_for x.1.entry l.entry) → IsTrue (is_before x (t, l))) (order logs)

-- no New of object o has a stamp above s
abbrev pub IsMadeBelow : List (List Logged) → ℕ → ℕ → Type 0
IsMadeBelow logs o s = AllByRecursion (λ x. makes x.1.entry ≡ Some o → x.1.stamp ≤ s) (order logs)

-- object o is there, and where it was made, its New has a stamp of at most s
pub record IsKnownAt (n : Numbering) (made : List (List ℕ)) (logs : List (List Logged)) (o s : ℕ) : Type 0 where
  pub there : is_there n made o ≡ true
  pub below : IsMadeBelow logs o s

-- thread t knows object o: by its last stamp
abbrev pub IsKnown : Numbering → List (List ℕ) → List (List Logged) → ℕ → ℕ → Type 0
IsKnown n made logs t o = IsKnownAt n made logs o (last_stamp (log_of logs t))

-- what a slot of p refers to is known at the bound on the stamps of p's entries: its owner's last stamp, or the stamp that is kept for it. So
-- who comes to own p, above that bound, knows all that p's slots refer to.
abbrev pub SlotsAreKnown : Numbering → List (List ℕ) → List PlainObject → List (List Logged) → List ℕ → Type 0
SlotsAreKnown n made objects logs kept =
    (p i o : ℕ) (x : PlainObject) → slice_get objects p ≡ Some x → slice_get x.slots i ≡ Some (Ref o)
    → IsKnownAt n made logs o (bound_of logs kept p x.monitor.owner)

-- the classes of the objects that these entries make, in their order
abbrev pub class_made : Option (ℕ × ℕ) → List ℕ
class_made None = []
class_made (Some p) = p.1 ∷ []

abbrev pub news : List Logged → List ℕ
news [] = []
news (l ∷ log) = class_made (creates l.entry) ++ news log

-- WHICH OBJECTS A THREAD KNOWS BY ITS LOG: the declared ones, those that it has made, and those that it got from a slot
abbrev pub tells_of : ℕ → Entry → Bool
tells_of o (New object class) = o == object
tells_of o (Get object slot (Ref value)) = o == value
tells_of o _ = false

abbrev pub is_told : List Logged → ℕ → Bool
is_told log o = list_any (λ l. tells_of o l.entry) log

abbrev pub knows_by_log : Numbering → List Logged → ℕ → Bool
knows_by_log n log o = nat_lt o (first_made n) || is_told log o

-- a thread prints an object that it doesn't know by its stamps: another thread has made it, at stamp 2
abbrev pub two_threads : Numbering
two_threads = record { declared = []; threads = 2; classes = 1 }

abbrev pub made_late : List (List Logged)
made_late = (record { stamp = 1; entry = Print Nil } ∷ record { stamp = 2; entry = New 0 0 } ∷ []) ∷ [] ∷ []

abbrev pub printed_early : Logged
printed_early = record { stamp = 1; entry = Print (Ref 0) }
