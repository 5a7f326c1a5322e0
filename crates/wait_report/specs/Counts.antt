-- What is counted of each object that some thread entered.
use Rattle.std.specs.Prelude.{ℕ, ◌+◌, Bool, false, ◌&&◌, ◌==◌, if◌then◌else◌, List, [], ◌∷◌, map, filter}
use Rattle.std.specs.List.{list_any, range_with_len}
use Rattle.plain_monitor.specs.declared.entry.Path.{Path}
use Rattle.plain_monitor.specs.declared.entry.Path.TheVariants.{BiasOwn, BiasTaken, StackFirst, StackAgain, MonitorFirst, MonitorAgain}
use Rattle.plain_monitor.specs.declared.entry.Entry.{Entry}
use Rattle.plain_monitor.specs.declared.entry.Entry.TheVariants.{Enter}
use Rattle.plain_monitor.specs.declared.entry.Logged.{Logged}
use Rattle.object_program.specs.Program.{ProgramText, objects_total}
use Rattle.lock_journal.specs.RunText.{path_number}
use Rattle.wait_report.specs.declared.counts.ObjectCount.{ObjectCount}
use Rattle.wait_report.specs.Handovers.{handovers}

-- the paths in their order
abbrev pub paths : List Path
paths = BiasOwn ∷ BiasTaken ∷ StackFirst ∷ StackAgain ∷ MonitorFirst ∷ MonitorAgain ∷ []

-- the entry enters object o
abbrev pub is_enter : ℕ → Entry → Bool
is_enter o (Enter object by) = object == o
is_enter o e = false

-- the entry enters object o by this path
abbrev pub is_enter_by : ℕ → Path → Entry → Bool
is_enter_by o path (Enter object by) = (object == o) && (path_number by == path_number path)
is_enter_by o path e = false

-- how many of these entries enter object o by this path
abbrev pub enters_by : List (ℕ × Logged) → ℕ → Path → ℕ
enters_by [] o path = 0
enters_by (x ∷ xs) o path = (if is_enter_by o path x.1.entry then 1 else 0) + enters_by xs o path

-- some of these entries enters object o
abbrev pub is_entered : List (ℕ × Logged) → ℕ → Bool
is_entered xs o = list_any (λ x. is_enter o x.1.entry) xs

abbrev pub count_of : ProgramText → List (ℕ × Logged) → ℕ → ObjectCount
count_of p xs o = record { object = o; paths = map (enters_by xs o) paths; handovers = handovers p xs o }

-- one count for each object of the program that is entered, by rising number
abbrev pub counts_of : ProgramText → List (ℕ × Logged) → List ObjectCount
counts_of p xs = map (count_of p xs) (filter (is_entered xs) (range_with_len 0 (objects_total p)))
