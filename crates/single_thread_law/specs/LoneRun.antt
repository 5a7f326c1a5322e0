-- A run of a program's only thread, by its log; and logs that are the same but for paths.
use Rattle.std.specs.Prelude.{◌≡◌, ◌⊎◌, ℕ, not, true, List, map, length, Some}
use Rattle.std.specs.List.{AllByRecursion, list_all}
use Rattle.plain_monitor.specs.declared.entry.Entry.{Entry}
use Rattle.plain_monitor.specs.declared.entry.Entry.TheVariants.{Enter}
use Rattle.plain_monitor.specs.declared.entry.Logged.{Logged}
use Rattle.plain_monitor.specs.declared.entry.Path.TheVariants.{StackFirst}
use Rattle.plain_monitor.specs.History.{RisesAbove, log_of}
use Rattle.plain_history.specs.EnterPaths.{has_hash}
use Rattle.plain_history.specs.ExactStamps.{StampsAreExact}
use Rattle.plain_history.specs.FirstDraws.{DrawsComeFirst}
use Rattle.core_world.specs.Clauses.Draws.{AreDraws, first_draw, all_draws}
use Rattle.object_program.specs.Program.{ProgramText}
use Rattle.plain_machine.specs.Legal.{machine_after}
use Rattle.plain_machine.specs.Machine.{PlainMachine, is_live, is_stuck}

-- PATHS
-- the entry, with one path for all enters
abbrev pub without_path : Entry → Entry
without_path (Enter object path) = Enter object StackFirst
without_path e = e

abbrev pub with_no_path : Logged → Logged
with_no_path l = record { stamp = l.stamp; entry = without_path l.entry }

abbrev pub with_no_paths : List (List Logged) → List (List Logged)
with_no_paths logs = map (λ log. map with_no_path log) logs

-- the same entries with the same stamps, but for the paths of enters
abbrev pub AreSameButForPaths : List (List Logged) → List (List Logged) → Type 0
AreSameButForPaths logs others = with_no_paths logs ≡ with_no_paths others

-- RUNS
-- no thread can go on: the machine is stuck, or all its threads have ended
abbrev pub NoneGoesOn : PlainMachine → Type 0
NoneGoesOn m = (is_stuck m ≡ true) ⊎ (list_all (λ s. not (is_live s)) m.threads ≡ true)

-- One thread's log is all that the run of the program has logged, and this is the machine after it, which is over. The
-- hashes are the draws of the generators from this start: of an object's hashes one was drawn, the first of those that its
-- thread logged. The stamps are exact.
pub record IsLoneRun (p : ProgramText) (fuel start : ℕ) (logs : List (List Logged)) (m : PlainMachine) : Type 0 where
  pub one : length logs ≡ 1
  pub rises : AllByRecursion (RisesAbove 0) logs
  pub under : machine_after p fuel logs ≡ Some m
  pub over : NoneGoesOn m
  pub drawn : (t : ℕ) → AreDraws (first_draw start t) 0 (log_of logs t)
  pub one_drawn : (o t : ℕ) → has_hash o (log_of logs t) ≡ true → all_draws o logs ≡ 1
  pub drawn_first : DrawsComeFirst logs
  pub exact : StampsAreExact logs
