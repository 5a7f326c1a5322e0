-- What holds of a run of a program, by the record and the closed heap that it leaves.
use Rattle.std.specs.Prelude.{◌≡◌, ℕ, true, length, Some}
use Rattle.heap_table.specs.Seen.{ClosedSeen}
use Rattle.lock_journal.specs.Hashes.{hash_fits}
use Rattle.lock_journal.specs.declared.record.RunRecord.{RunRecord}
use Rattle.object_program.specs.Program.{ProgramText}
use Rattle.plain_history.specs.ExactStamps.{StampsAreExact}
use Rattle.plain_history.specs.FirstDraws.{DrawsComeFirst}
use Rattle.plain_machine.specs.Legal.{IsLegal, machine_after}
use Rattle.plain_machine.specs.Machine.{PlainMachine}
use Rattle.plain_monitor.specs.Order.{order}
use Rattle.run_rounds.specs.Outcome.{IsOver}
use Rattle.program_run.specs.declared.settings.Settings.{Settings}
use Rattle.program_run.specs.Biases.{RecordObeysBiasLaw}
use Rattle.program_run.specs.HeapFor.{heap_for}
use Rattle.program_run.specs.Left.{IsOfClosed}
use Rattle.program_run.specs.Shots.{AreRightShots}

-- the record is of this program under these settings
pub record IsRecordOf (s : Settings) (p : ProgramText) (r : RunRecord) : Type 0 where
  pub program : r.program ≡ p
  pub fuel : r.fuel ≡ s.fuel
  pub start : r.start ≡ s.start
  pub bias : r.bias ≡ s.bias

-- it has a log and shots for each thread, and a line for each class
pub record HasAll (p : ProgramText) (r : RunRecord) : Type 0 where
  pub logs : length r.logs ≡ length p.threads
  pub shots : length r.shots ≡ length p.threads
  pub classes : length r.classes ≡ length p.classes

-- The record is of this program and of this heap, which is the program's. The plain machine takes its logs, and is over
-- after them, as the halt says; the hashes fit the threads' generators, the dumps' shots are right, the stamps are exact,
-- and the law of biases holds.
pub record IsRan (s : Settings) (p : ProgramText) (r : RunRecord) (c : ClosedSeen) : Type 0 where
  pub of : IsRecordOf s p r
  pub closed : IsOfClosed r c
  pub heap : c.heap ≡ heap_for s p
  pub all : HasAll p r
  pub legal : IsLegal p s.fuel r.logs
  pub over : (m : PlainMachine) → machine_after p s.fuel r.logs ≡ Some m → IsOver m r.halted
  pub shots : AreRightShots p s.fuel r.logs r.shots
  -- the hashes of each object fit the generators of the threads, and a thread that draws one has logged none of the object before
  pub hashes : (o : ℕ) → hash_fits s.start (order r.logs) o ≡ true
  pub first : DrawsComeFirst r.logs
  -- an entry that takes an object is stamped one above the greater of the last stamp of its log and the last one below its own
  -- with which a thread let go of the object, and every other entry has the next stamp of its log
  pub stamps : StampsAreExact r.logs
  pub biases : RecordObeysBiasLaw s.tick r c
