-- Why a call is refused, by the log of its thread alone.
use Rattle.std.specs.Prelude.{◌≡◌, ◌≤◌, ℕ, List, Result, Ok, Err}
use Rattle.plain_monitor.specs.declared.entry.Logged.{Logged}
use Rattle.plain_history.specs.HeldByLog.{held_by, nothing_held}

-- exactly where by its own log the thread has no hold on o
abbrev pub IsRefusedUnheld : {A E : Type 0} → List Logged → ℕ → Result A E → Type 0
IsRefusedUnheld log o (Ok a) = 1 ≤ held_by nothing_held log o
IsRefusedUnheld log o (Err e) = held_by nothing_held log o ≡ 0
