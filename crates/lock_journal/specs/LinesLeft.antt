-- What is still to come of the lines of a run's text.
use Rattle.std.specs.Prelude.{◌≡◌, ℕ, ◌-◌, ◌≤◌, Bool, List, [], ◌++◌, drop, length, map, slice_get, slice_index_or, Option, Some, None}
use Rattle.std.specs.List.{AllByRecursion, flat_map}
use Rattle.plain_monitor.specs.declared.entry.Logged.{Logged}
use Rattle.plain_monitor.specs.Limits.{most_threads}
use Rattle.plain_monitor.specs.Order.{order}
use Rattle.plain_monitor.specs.History.{RisesAbove}
use Rattle.plain_machine.specs.Machine.{PlainMachine}
use Rattle.lock_journal.specs.declared.record.RunRecord.{RunRecord}
use Rattle.lock_journal.specs.declared.record.Cell.{Cell}
use Rattle.lock_journal.specs.declared.lines.Lines.{Lines}
use Rattle.lock_journal.specs.declared.cells.Place.{Place}
use Rattle.lock_journal.specs.Merging.{left_of, AreOfSixteen}
use Rattle.lock_journal.specs.EndedLines.{ended_lines}
use Rattle.lock_journal.specs.RunText.{printed, shot_cells, cells_lines, thread_lines, class_lines, journal_line, only_where}

-- the lines of these entries
abbrev pub prints_of : RunRecord → List (ℕ × Logged) → List (List ℕ)
prints_of run xs = flat_map (λ x. printed run.program run.shots x.0 x.1.entry) xs

-- the lines of the entries that a merge has left
abbrev pub prints_left : RunRecord → List ℕ → List (List ℕ)
prints_left run places = prints_of run (order (left_of run.logs places))

-- the cells of a dump of thread t, by its number
abbrev pub cells_of : RunRecord → ℕ → ℕ → List Cell
cells_of run t number = shot_cells (slice_get (slice_index_or run.shots t []) (number - 1))

-- the lines of the cells of a dump that are left
abbrev pub cells_left : RunRecord → Option Place → List (List ℕ)
cells_left run None = []
cells_left run (Some place) =
    cells_lines run.program place.object (drop place.object (cells_of run place.thread place.number))

-- the lines on thread t and those after it
abbrev pub threads_left : PlainMachine → ℕ → List (List ℕ)
threads_left m t = thread_lines m t (drop t m.threads)

-- the same by the last entries of their logs
abbrev pub ended_left : RunRecord → ℕ → List (List ℕ)
ended_left run t = ended_lines run.program t (drop t run.logs)

-- the lines on class c and those after it
abbrev pub classes_left : RunRecord → PlainMachine → ℕ → List (List ℕ)
classes_left run m c = class_lines run.program m c (drop c run.classes) (order run.logs)

-- the lines of the journal that a merge has left
abbrev pub journal_left : RunRecord → List ℕ → List (List ℕ)
journal_left run places = map (journal_line run.program) (order (left_of run.logs places))

-- the lines that are left
abbrev pub lines_left : RunRecord → PlainMachine → Lines → List (List ℕ)
lines_left run m lines =
    cells_left run lines.cells ++ prints_left run lines.prints ++ threads_left m lines.thread
    ++ only_where lines.stats (classes_left run m lines.class)
    ++ only_where lines.journal (journal_left run lines.entries)

-- the lines of the run can be given: its entries can be put into one order, and the machine has the program of the run, with
-- all of its threads
pub record IsShown (run : RunRecord) (m : PlainMachine) : Type 0 where
  -- each log's stamps rise
  pub rising : AllByRecursion (RisesAbove 0) run.logs
  -- no thread after the sixteenth has logged anything
  pub few : AreOfSixteen run.logs
  pub program : m.program ≡ run.program
  pub threads : length m.threads ≡ length run.program.threads

-- the lines of the run can be given by the logs alone
pub record IsShownEnded (run : RunRecord) : Type 0 where
  -- each log's stamps rise
  pub rising : AllByRecursion (RisesAbove 0) run.logs
  -- as many logs as a program has threads at most
  pub few : length run.logs ≤ most_threads

-- the lines that are left, where the lines on threads go by the logs, and the classes have none
abbrev pub lines_left_ended : RunRecord → Lines → List (List ℕ)
lines_left_ended run lines =
    cells_left run lines.cells ++ prints_left run lines.prints ++ ended_left run lines.thread
    ++ only_where lines.journal (journal_left run lines.entries)

-- the lines of the run, where the lines on threads go by the logs, and the classes have none
abbrev pub lines_of_ended : Bool → RunRecord → List (List ℕ)
lines_of_ended journal run =
    prints_of run (order run.logs) ++ ended_left run 0
    ++ only_where journal (map (journal_line run.program) (order run.logs))
