-- Which logs are legal.
use Rattle.std.specs.Prelude.{ℕ, ◌<◌, List, [], ◌∷◌, ◌++◌, slice_index_or, slice_set, Option, Some, IsSome, option_and_then}
use Rattle.std.specs.List.{AllByRecursion}
use Rattle.plain_monitor.specs.declared.entry.Entry.{Entry}
use Rattle.plain_monitor.specs.declared.entry.Logged.{Logged}
use Rattle.plain_monitor.specs.Objects.{PlainObject, new_objects, take_entry}
use Rattle.plain_monitor.specs.Order.{order}

-- what these entries make of a state, one after the other, where it takes each
abbrev pub run_all : {S : Type 0} → (S → ℕ → Entry → Option S) → S → List (ℕ × Logged) → Option S
run_all take s [] = Some s
run_all take s (x ∷ xs) = option_and_then (λ after. run_all take after xs) (take s x.0 x.1.entry)

-- the objects after these entries, one after the other, where they take each
abbrev pub take_all : List PlainObject → List (ℕ × Logged) → Option (List PlainObject)
take_all objects xs = run_all take_entry objects xs

-- the stamps rise strictly, and the first is above n
abbrev pub RisesAbove : ℕ → List Logged → Type 0
RisesAbove n [] = Unit {0}
RisesAbove n (l ∷ log) = (n < l.stamp) × RisesAbove l.stamp log

-- the last stamp of the log, or n where it has none
abbrev pub last_above : ℕ → List Logged → ℕ
last_above n [] = n
last_above n (l ∷ log) = last_above l.stamp log

abbrev pub last_stamp : List Logged → ℕ
last_stamp log = last_above 0 log

-- the plain objects after all entries of the logs
abbrev pub objects_after : List (ℕ × ℕ) → List (List Logged) → Option (List PlainObject)
objects_after shape logs = take_all (new_objects shape) (order logs)

-- each log's stamps rise strictly from above 0, and the plain objects take every entry of the order
pub record LegalObjects (shape : List (ℕ × ℕ)) (logs : List (List Logged)) : Type 0 where
  pub rises : AllByRecursion (RisesAbove 0) logs
  pub taken : IsSome (objects_after shape logs)

-- the log of thread t
abbrev pub log_of : List (List Logged) → ℕ → List Logged
log_of logs t = slice_index_or logs t []

-- the logs after thread t has logged l
abbrev pub appended : List (List Logged) → ℕ → Logged → List (List Logged)
appended logs t l = slice_set logs t (log_of logs t ++ l ∷ [])
