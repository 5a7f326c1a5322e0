-- The entries that pass a test, log by log.
use Rattle.std.specs.Prelude.{ℕ, Bool, List, map}
use Rattle.std.specs.List.{filter}
use Rattle.plain_monitor.specs.declared.entry.Entry.{Entry}
use Rattle.plain_monitor.specs.declared.entry.Logged.{Logged}

-- the entries of a log that pass, with their stamps
abbrev pub kept_of : (Entry → Bool) → List Logged → List Logged
kept_of keeps log = filter (λ l. keeps l.entry) log

-- those of each log
abbrev pub kept_logs : (Entry → Bool) → List (List Logged) → List (List Logged)
kept_logs keeps logs = map (kept_of keeps) logs

-- those of one order
abbrev pub kept_entries : (Entry → Bool) → List (ℕ × Logged) → List (ℕ × Logged)
kept_entries keeps xs = filter (λ x. keeps x.1.entry) xs
