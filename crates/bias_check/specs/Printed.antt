-- The journal of logs.
use Rattle.std.specs.Prelude.{ℕ, ◌<◌, ◌≤◌, ◌^◌, List, length, map}
use Rattle.plain_monitor.specs.declared.entry.Logged.{Logged}
use Rattle.plain_monitor.specs.Order.{order}
use Rattle.object_program.specs.Program.{ProgramText}
use Rattle.lock_journal.specs.RunText.{journal_line}
use Rattle.bias_check.specs.Lines.{IsEntryIn}

-- a line of a run can tell the entry: it is the program's, and its stamp is from 1 to 2^46 - 1
pub record IsTellable (p : ProgramText) (x : ℕ × Logged) : Type 0 where
  pub thread : x.0 < length p.threads
  pub above_zero : 1 ≤ x.1.stamp
  pub below : x.1.stamp < 2 ^ 46
  pub entry : IsEntryIn p x.1.entry

-- the lines of the logs, by rising stamp
abbrev pub journal_of : ProgramText → List (List Logged) → List (List ℕ)
journal_of p logs = map (journal_line p) (order logs)
