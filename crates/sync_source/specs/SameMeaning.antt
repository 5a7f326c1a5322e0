-- That code does what a program with blocks does.
use Rattle.std.specs.Prelude.{◌≡◌, ℕ, List, map, slice_get, Some, option_and_then, option_map}
use Rattle.plain_monitor.specs.declared.entry.Logged.{Logged}
use Rattle.object_program.specs.Program.{ProgramText}
use Rattle.plain_machine.specs.declared.monitor_call.NextEntry.{NextEntry}
use Rattle.plain_machine.specs.declared.monitor_call.NextEntry.TheVariants.{Ends}
use Rattle.plain_machine.specs.Asking.{ask}
use Rattle.plain_machine.specs.Machine.{PlainMachine}
use Rattle.plain_machine.specs.Legal.{machine_after, IsLegal}
use Rattle.sync_source.specs.Source.{SyncText}
use Rattle.sync_source.specs.SyncThread.{unplaced, with_index}
use Rattle.sync_source.specs.SyncMachine.{SyncMachine, sync_machine_after, IsSyncLegal}

-- the same with this index, where the entry is a trap
abbrev pub indexed : ℕ → Logged → Logged
indexed i l = record l { entry = with_index i l.entry }

-- the logs without the indexes of traps
abbrev pub unindexed : List (List Logged) → List (List Logged)
unindexed logs = map (λ log. map (indexed 0) log) logs

-- what is asked, without the index of a trap
abbrev pub unplaced_asked : NextEntry → NextEntry
unplaced_asked (Ends e) = Ends (unplaced e)
unplaced_asked a = a

-- each thread asks the same, the index of a trap aside, of the same objects
pub record AskTheSame (a : SyncMachine) (m : PlainMachine) : Type 0 where
  pub objects : a.objects ≡ m.objects
  pub asks :
      (t : ℕ) → option_and_then (λ s. ask s.thread) (slice_get a.threads t)
      ≡ option_map unplaced_asked (option_and_then ask (slice_get m.threads t))

-- with any fuel, logs are legal for the program with blocks exactly where they are legal for the code, the indexes of traps aside; and after
-- them each thread asks the same
pub record DoesTheSame (p : SyncText) (code : ProgramText) : Type 0 where
  -- legal logs of the program with blocks are legal for the code once their traps have the indexes of its instructions
  pub legal :
      (fuel : ℕ) (logs : List (List Logged)) → IsSyncLegal p fuel logs
      → (placed : List (List Logged)) × (unindexed placed ≡ unindexed logs) × IsLegal code fuel placed
  -- legal logs of the code are legal for the program with blocks, whatever the indexes of their traps are
  pub legal_only :
      (fuel : ℕ) (logs placed : List (List Logged)) → unindexed placed ≡ unindexed logs → IsLegal code fuel placed
      → IsSyncLegal p fuel logs
  -- after both, the machines ask the same
  pub asks :
      (fuel : ℕ) (logs placed : List (List Logged)) (a : SyncMachine) (m : PlainMachine)
      → unindexed placed ≡ unindexed logs → sync_machine_after p fuel logs ≡ Some a
      → machine_after code fuel placed ≡ Some m → AskTheSame a m
