-- What a dump saw.
use Rattle.std.specs.Prelude.{◌≡◌, ◌⊎◌, ℕ, ◌≤◌, List, [], length, map, slice_get, slice_index, slice_index_or, Some}
use Rattle.std.specs.List.{AllByRecursion}
use Rattle.core_world.specs.Shots.{dumps_from}
use Rattle.lock_journal.specs.declared.record.Shot.{Shot}
use Rattle.lock_journal.specs.MachineCells.{cells_in}
use Rattle.object_program.specs.Program.{ProgramText}
use Rattle.plain_machine.specs.Legal.{machine_after}
use Rattle.plain_machine.specs.Machine.{PlainMachine}
use Rattle.plain_monitor.specs.declared.entry.Logged.{Logged}
use Rattle.plain_monitor.specs.History.{log_of}
use Rattle.plain_history.specs.Cuts.{cut_logs, IsCutInOrder}

-- the shot cuts each log somewhere, so that tied entries keep their order, and has the owner and the count of each object of the machine after
-- the logs that are cut so; the number of an object that isn't there yet has no owner, and the count 0
pub record IsRightShot (p : ProgramText) (fuel : ℕ) (logs : List (List Logged)) (shot : Shot) : Type 0 where
  pub threads : length shot.cut ≡ length logs
  pub within : (u : ℕ) → slice_index shot.cut u ≤ length (log_of logs u)
  pub in_order : IsCutInOrder shot.cut logs
  pub machine : PlainMachine
  pub under : machine_after p fuel (cut_logs shot.cut logs) ≡ Some machine
  pub cells : shot.cells ≡ cells_in machine

-- one cuts each log no later than the other
abbrev pub IsNoLater : Shot → Shot → Type 0
IsNoLater a b = (u : ℕ) → slice_index a.cut u ≤ slice_index b.cut u

abbrev pub shots_of : List (List Shot) → ℕ → List Shot
shots_of shots t = slice_index_or shots t []

-- each shot is right; a thread's are of its dumps: each was made just before the dump, and has its number; and of any two
-- one was made no later than the other
pub record AreRightShots (p : ProgramText) (fuel : ℕ) (logs : List (List Logged))
    (shots : List (List Shot)) : Type 0 where
  pub right : (t : ℕ) → AllByRecursion (IsRightShot p fuel logs) (shots_of shots t)
  pub dumps : (t : ℕ) → map (λ s. (slice_index s.cut t, s.number)) (shots_of shots t) ≡ dumps_from 0 (log_of logs t)
  pub ordered : (t u i j : ℕ) (a b : Shot) → slice_get (shots_of shots t) i ≡ Some a
      → slice_get (shots_of shots u) j ≡ Some b
      → IsNoLater a b ⊎ IsNoLater b a
