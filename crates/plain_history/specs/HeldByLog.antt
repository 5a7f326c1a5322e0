-- How often a thread holds an object by its own log, and the entries by which it let go of one.
use Rattle.std.specs.Prelude.{◌≡◌, ◌⊎◌, ℕ, ◌+◌, ◌-◌, ◌≤◌, ◌==◌, if◌then◌else◌, List, [], ◌∷◌, ◌++◌, Option, Some, None}
use Rattle.plain_monitor.specs.declared.entry.Entry.{Entry}
use Rattle.plain_monitor.specs.declared.entry.Entry.TheVariants as entry
use Rattle.plain_monitor.specs.declared.entry.Logged.{Logged}
use Rattle.plain_monitor.specs.Monitor.{PlainMonitor, count_of, owns}
use Rattle.plain_monitor.specs.History.{log_of}

-- BY THE PLAIN MONITOR
abbrev pub or_zero : Option ℕ → ℕ
or_zero None = 0
or_zero (Some n) = n

-- the holds that t has by the plain monitor: as its owner, or as one who waits or was called
abbrev pub holds_by_monitor : PlainMonitor → ℕ → ℕ
holds_by_monitor m t = (if owns m t then m.count else 0) + or_zero (count_of m.waits t) + or_zero (count_of m.called t)

-- BY THE LOG. How often the thread holds o after this entry, where it held each object so often before: an Enter is one hold more, an Exit one
-- less, and a Wait keeps them all.
abbrev pub held_after : Entry → (ℕ → ℕ) → ℕ → ℕ
held_after (entry.Enter object path) held o = held o + (if object == o then 1 else 0)
held_after (entry.Exit object) held o = held o - (if object == o then 1 else 0)
held_after _ held o = held o

-- and after these entries
abbrev pub held_by : (ℕ → ℕ) → List Logged → ℕ → ℕ
held_by held [] = held
held_by held (l ∷ log) = held_by (held_after l.entry held) log

abbrev pub nothing_held : ℕ → ℕ
nothing_held o = 0

-- LETTING GO. With this entry a thread that held each object so often lets go of o: it waits there, or leaves its only hold.
abbrev pub LetsGoOf : (ℕ → ℕ) → Entry → ℕ → Type 0
LetsGoOf held e o = (e ≡ entry.Wait o) ⊎ ((e ≡ entry.Exit o) × (held o ≡ 1))

-- an entry of the log with this stamp let go of o, by what the thread held by its log before
pub record HasLetGo (log : List Logged) (o stamp : ℕ) : Type 0 where
  pub before : List Logged
  pub entry : Entry
  pub later : List Logged
  pub log_is : log ≡ before ++ record { stamp = stamp; entry = entry } ∷ later
  pub lets_go : LetsGoOf (held_by nothing_held before) entry o

-- the last stamp with which a thread let go of o, by these logs; 0 where none has
pub record IsLastLetGo (logs : List (List Logged)) (o stamp : ℕ) : Type 0 where
  pub logged : (stamp ≡ 0) ⊎ ((t : ℕ) × HasLetGo (log_of logs t) o stamp)
  pub last : (t s : ℕ) → HasLetGo (log_of logs t) o s → s ≤ stamp
