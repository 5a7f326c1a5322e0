-- A run by what neither its workers nor its biases tell: no setting is named here but the fuel and the start of the generators of hashes.
use Rattle.std.specs.Prelude.{◌≡◌, ℕ, true, List, ◌++◌, length, Some}
use Rattle.std.specs.List.{flat_map}
use Rattle.heap_table.specs.Seen.{ClosedSeen}
use Rattle.lock_journal.specs.Hashes.{hash_fits}
use Rattle.lock_journal.specs.RunText.{printed, text_of_lines, thread_lines}
use Rattle.lock_journal.specs.declared.record.RunRecord.{RunRecord}
use Rattle.lock_journal.specs.declared.record.Shot.{Shot}
use Rattle.single_thread_law.specs.LoneRun.{with_no_paths, NoneGoesOn}
use Rattle.object_program.specs.Program.{ProgramText}
use Rattle.plain_history.specs.ExactStamps.{StampsAreExact}
use Rattle.plain_history.specs.FirstDraws.{DrawsComeFirst}
use Rattle.plain_machine.specs.Legal.{IsLegal, machine_after}
use Rattle.plain_machine.specs.Machine.{PlainMachine}
use Rattle.plain_monitor.specs.declared.entry.Logged.{Logged}
use Rattle.plain_monitor.specs.Order.{order}
use Rattle.program_run.specs.declared.settings.Settings.{Settings}
use Rattle.program_run.specs.Ran.{IsRan}
use Rattle.program_run.specs.Shots.{AreRightShots}

-- The logs have one path for all enters. The plain machine takes them, and this is the machine after them, which is over; the hashes fit
-- the threads' generators, the dumps' shots are right, and the stamps are exact.
pub record IsPlainRun (p : ProgramText) (fuel start : ℕ) (logs : List (List Logged)) (shots : List (List Shot))
    (m : PlainMachine) : Type 0 where
  pub pathless : with_no_paths logs ≡ logs
  pub all_logs : length logs ≡ length p.threads
  pub all_shots : length shots ≡ length p.threads
  pub legal : IsLegal p fuel logs
  pub under : machine_after p fuel logs ≡ Some m
  pub over : NoneGoesOn m
  pub right : AreRightShots p fuel logs shots
  pub hashes : (o : ℕ) → hash_fits start (order logs) o ≡ true
  pub first : DrawsComeFirst logs
  pub stamps : StampsAreExact logs

-- what it prints and dumps in stamped order, and how each thread ended
abbrev pub plain_text : ProgramText → List (List Logged) → List (List Shot) → PlainMachine → List ℕ
plain_text p logs shots m =
    text_of_lines (flat_map (λ x. printed p shots x.0 x.1.entry) (order logs) ++ thread_lines m 0 m.threads)

-- a record and a closed heap of a run under these settings, which is the same but for the paths of enters
pub record IsMadeBy (s : Settings) (p : ProgramText) (logs : List (List Logged)) (shots : List (List Shot)) : Type 0 where
  pub run : RunRecord
  pub closed : ClosedSeen
  pub ran : IsRan s p run closed
  pub logs_are : with_no_paths run.logs ≡ logs
  pub shots_are : run.shots ≡ shots
