-- The paths of enters: the entries on one object in the order of all logs, which of them go by a bias and which end it, and which paths stand
-- only at a first hold.
use Rattle.std.specs.Prelude.{◌≡◌, ℕ, ◌==◌, ◌&&◌, not, cond, Bool, true, false, List, [], ◌∷◌, Option, Some, None}
use Rattle.std.specs.List.{list_any}
use Rattle.plain_monitor.specs.declared.entry.Entry.{Entry}
use Rattle.plain_monitor.specs.declared.entry.Entry.TheVariants as entry
use Rattle.plain_monitor.specs.declared.entry.Logged.{Logged}
use Rattle.plain_monitor.specs.declared.entry.Path.{Path}
use Rattle.plain_monitor.specs.declared.entry.Path.TheVariants.{BiasOwn, BiasTaken, StackFirst, MonitorFirst}
use Rattle.plain_history.specs.Tied.{bound_to, is_same_object}
use Rattle.plain_history.specs.HeldByLog.{held_after}

-- PATHS
-- the enter went by a bias
abbrev pub is_by_bias : Path → Bool
is_by_bias BiasOwn = true
is_by_bias BiasTaken = true
is_by_bias _ = false

-- the bias was the thread's before the enter, which may be its first or a further one
abbrev pub is_own : Path → Bool
is_own BiasOwn = true
is_own _ = false

-- a path that an enter has only where the thread held nothing of the object
abbrev pub is_first : Path → Bool
is_first BiasTaken = true
is_first StackFirst = true
is_first MonitorFirst = true
is_first _ = false

-- ENTRIES
-- an enter by a bias
abbrev pub needs_bias : Entry → Bool
needs_bias (entry.Enter o path) = is_by_bias path
needs_bias _ = false

-- an entry after which its object has no bias any more: an enter by another path, a wait or a notify
abbrev pub ends_bias : Entry → Bool
ends_bias (entry.Enter o path) = not (is_by_bias path)
ends_bias (entry.Wait o) = true
ends_bias (entry.Notify o woken) = true
ends_bias (entry.NotifyAll o woken) = true
ends_bias _ = false

-- the entries on o but for hashes, of these entries and in their order
abbrev pub entries_on : ℕ → List (ℕ × Logged) → List Entry
entries_on o [] = []
entries_on o (x ∷ xs) =
    cond (is_same_object (bound_to x.1.entry) (Some o)) (x.1.entry ∷ entries_on o xs) (entries_on o xs)

-- the path of the first enter among these
abbrev pub first_path : List Entry → Option Path
first_path [] = None
first_path (entry.Enter o path ∷ es) = Some path
first_path (_ ∷ es) = first_path es

-- no enter by a bias stands after an entry that ended the bias
abbrev pub EndsStay : List Entry → Type 0
EndsStay [] = Unit {0}
EndsStay (e ∷ es) = (ends_bias e ≡ true → list_any needs_bias es ≡ false) × EndsStay es

-- HOLDS. Where each object is held so often, an enter has the path of a first hold exactly where nothing is held and the bias wasn't the
-- thread's own already.
abbrev pub PathFits : (ℕ → ℕ) → Entry → Type 0
PathFits held (entry.Enter o path) = is_first path ≡ ((held o == 0) && not (is_own path))
PathFits held _ = Unit {0}

-- the same of a log's entries, where so much is held before the first
abbrev pub PathsFit : (ℕ → ℕ) → List Logged → Type 0
PathsFit held [] = Unit {0}
PathsFit held (l ∷ log) = PathFits held l.entry × PathsFit (held_after l.entry held) log

-- HASHES
abbrev pub is_hash : ℕ → Entry → Bool
is_hash o (entry.Hash object value drawn) = object == o
is_hash o _ = false

abbrev pub has_hash : ℕ → List Logged → Bool
has_hash o log = list_any (λ l. is_hash o l.entry) log
