-- Counting the enters of a class's objects, log by log.
use Rattle.std.specs.Prelude.{ℕ, ◌+◌, ◌≤◌, if◌then◌else◌, List, [], ◌∷◌, ◌++◌, codes, decimal, map, slice_get, slice_index}
use Rattle.std.specs.List.{flat_map}
use Rattle.plain_monitor.specs.declared.entry.Path.{Path}
use Rattle.plain_monitor.specs.declared.entry.Path.TheVariants.{BiasOwn, BiasTaken, StackFirst, StackAgain, MonitorFirst, MonitorAgain}
use Rattle.plain_monitor.specs.declared.entry.Entry.{Entry}
use Rattle.plain_monitor.specs.declared.entry.Logged.{Logged}
use Rattle.object_program.specs.Program.{ProgramText}
use Rattle.plain_machine.specs.Machine.{PlainMachine}
use Rattle.lock_journal.specs.declared.record.ClassLine.{ClassLine}
use Rattle.lock_journal.specs.RunText.{path_number, is_enter_by, enters_by, class_name}

-- 1 for an enter of an object of class c by this path, 0 for all else
abbrev pub enter_by : PlainMachine → ℕ → Path → Entry → ℕ
enter_by m c path e = if is_enter_by m c path e then 1 else 0

-- how often a log enters the objects of class c by this path
abbrev pub enters_in : PlainMachine → ℕ → Path → List Logged → ℕ
enters_in m c path [] = 0
enters_in m c path (l ∷ log) = enter_by m c path l.entry + enters_in m c path log

-- how often these logs do
abbrev pub enters_in_all : PlainMachine → ℕ → Path → List (List Logged) → ℕ
enters_in_all m c path [] = 0
enters_in_all m c path (log ∷ logs) = enters_in m c path log + enters_in_all m c path logs

-- the count of this path among the counts by path
abbrev pub count_at : List ℕ → Path → ℕ
count_at counts path = slice_index counts (path_number path)

-- no count is above this number
abbrev pub AreAtMost : List ℕ → ℕ → Type 0
AreAtMost counts n = (path : Path) → count_at counts path ≤ n

-- the counts of the entries in one order, by path
abbrev pub enters_of : PlainMachine → ℕ → List (ℕ × Logged) → List ℕ
enters_of m c xs =
    map (λ path. enters_by m c path xs)
    (BiasOwn ∷ BiasTaken ∷ StackFirst ∷ StackAgain ∷ MonitorFirst ∷ MonitorAgain ∷ [])

-- each count after a space
abbrev pub counts_text : List ℕ → List ℕ
counts_text counts = flat_map (λ n. codes " " ++ decimal n) counts

-- the line on a class up to its counts
abbrev pub class_start : ProgramText → ℕ → ClassLine → List ℕ
class_start p c l =
    codes "class " ++ class_name (slice_get p.classes c) ++ codes " single " ++ decimal l.single
    ++ codes " rebias " ++ decimal l.rebias
    ++ codes " revoke " ++ decimal l.revoke ++ codes " count " ++ decimal l.count ++ codes " prototype "
    ++ decimal l.prototype
    ++ codes " enters"
