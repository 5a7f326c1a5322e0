-- Of the hashes of an object that a thread logs, its draw is the first.
use Rattle.std.specs.Prelude.{◌≡◌, ℕ, false, List, ◌∷◌, ◌++◌, Some}
use Rattle.plain_monitor.specs.declared.entry.Entry.TheVariants.{Hash}
use Rattle.plain_monitor.specs.declared.entry.Logged.{Logged}
use Rattle.plain_monitor.specs.History.{log_of}
use Rattle.plain_history.specs.EnterPaths.{has_hash}

-- a thread that draws the hash of an object has logged no hash of the object before
abbrev pub DrawsComeFirst : List (List Logged) → Type 0
DrawsComeFirst logs =
    (t o value number : ℕ) (before : List Logged) (l : Logged) (later : List Logged)
    → log_of logs t ≡ before ++ l ∷ later → l.entry ≡ Hash o value (Some number) → has_hash o before ≡ false
