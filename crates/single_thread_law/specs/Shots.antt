-- What the dumps of a program's only thread saw.
use Rattle.std.specs.Prelude.{◌≡◌, ℕ, List, [], ◌∷◌, map, take, slice_index, slice_index_or, Some}
use Rattle.std.specs.List.{AllByRecursion}
use Rattle.core_world.specs.Shots.{dumps_from}
use Rattle.lock_journal.specs.declared.record.RunRecord.{RunRecord}
use Rattle.lock_journal.specs.declared.record.Shot.{Shot}
use Rattle.lock_journal.specs.MachineCells.{cells_in}
use Rattle.object_program.specs.Program.{ProgramText}
use Rattle.plain_machine.specs.Legal.{machine_after}
use Rattle.plain_machine.specs.Machine.{PlainMachine}
use Rattle.plain_monitor.specs.declared.entry.Logged.{Logged}
use Rattle.plain_monitor.specs.History.{log_of}

-- how much of the first thread's log the shot leaves
abbrev pub front_of : Shot → ℕ
front_of shot = slice_index shot.cut 0

-- the shot has the owner and the count of each object of the machine after the front of the log that it leaves
pub record IsShotOfLog (p : ProgramText) (fuel : ℕ) (log : List Logged) (shot : Shot) : Type 0 where
  pub machine : PlainMachine
  pub under : machine_after p fuel (take (front_of shot) log ∷ []) ≡ Some machine
  pub cells : shot.cells ≡ cells_in machine

-- each shot does, and the shots are of the log's dumps, in their order: each was made just before the dump, and has its
-- number
pub record AreShotsOf (p : ProgramText) (fuel : ℕ) (log : List Logged) (shots : List Shot) : Type 0 where
  pub right : AllByRecursion (IsShotOfLog p fuel log) shots
  pub dumps : map (λ s. (front_of s, s.number)) shots ≡ dumps_from 0 log

-- the record's shots of its first thread are right
abbrev pub HasShotsOf : ProgramText → ℕ → RunRecord → Type 0
HasShotsOf p fuel r = AreShotsOf p fuel (log_of r.logs 0) (slice_index_or r.shots 0 [])
