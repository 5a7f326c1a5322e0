-- Exact stamps: what the logs alone ask of the stamp of each entry.
use Rattle.std.specs.Prelude.{◌≡◌, ◌⊎◌, ℕ, ◌+◌, ◌<◌, ◌≤◌, max, List, ◌∷◌, ◌++◌}
use Rattle.plain_monitor.specs.declared.entry.Entry.{Entry}
use Rattle.plain_monitor.specs.declared.entry.Entry.TheVariants.{Enter, Resume}
use Rattle.plain_monitor.specs.declared.entry.Logged.{Logged}
use Rattle.plain_monitor.specs.History.{last_stamp, log_of}
use Rattle.plain_history.specs.HeldByLog.{HasLetGo}

-- the last stamp below `bound` with which a thread let go of o; 0 where none has
pub record IsLastLetGoBelow (logs : List (List Logged)) (o bound stamp : ℕ) : Type 0 where
  pub below : stamp < bound
  pub logged : (stamp ≡ 0) ⊎ ((t : ℕ) × HasLetGo (log_of logs t) o stamp)
  pub last : (t s : ℕ) → HasLetGo (log_of logs t) o s → s < bound → s ≤ stamp

-- the stamp of an entry that takes o, after the stamp `last` of its own log: one more than the greater of that stamp and the last one below
-- its own with which a thread let go of o
pub record IsTakingStamp (logs : List (List Logged)) (o last stamp : ℕ) : Type 0 where
  pub let_go : ℕ
  pub is_last : IsLastLetGoBelow logs o stamp let_go
  pub next : stamp ≡ max let_go last + 1

-- the stamp of an entry: as above where it takes an object, else the next one of its own log
abbrev pub IsExactStamp : List (List Logged) → ℕ → Entry → ℕ → Type 0
IsExactStamp logs last (Enter o path) stamp = IsTakingStamp logs o last stamp
IsExactStamp logs last (Resume o) stamp = IsTakingStamp logs o last stamp
IsExactStamp logs last _ stamp = stamp ≡ last + 1

-- each entry of each log has such a stamp
abbrev pub StampsAreExact : List (List Logged) → Type 0
StampsAreExact logs =
    (t : ℕ) (before : List Logged) (l : Logged) (later : List Logged) → log_of logs t ≡ before ++ l ∷ later
    → IsExactStamp logs (last_stamp before) l.entry l.stamp
