-- What the record of a run has of the heap that the run left.
use Rattle.std.specs.Prelude.{◌≡◌, ℕ, List, map, Option}
use Rattle.core_world.specs.Threads.ThreadView.{DumpShot}
use Rattle.heap_table.specs.Seen.{ClosedSeen}
use Rattle.lock_journal.specs.declared.record.Cell.{Cell}
use Rattle.lock_journal.specs.declared.record.RunRecord.{RunRecord}
use Rattle.lock_journal.specs.declared.record.Shot.{Shot}
use Rattle.run_rounds.specs.Outcome.{was_halted}
use Rattle.program_run.specs.Lines.{class_lines}

-- a shot, as a record has it
abbrev pub cells_left : List (Option ℕ × ℕ) → List Cell
cells_left cells = map (λ x. record { owner = x.0; count = x.1 }) cells

abbrev pub shot_left : DumpShot → Shot
shot_left s = record { number = s.number; cut = s.cut; cells = cells_left s.cells }

abbrev pub shots_left : List DumpShot → List Shot
shots_left shots = map shot_left shots

-- the threads' logs and shots, the lines of the classes, and whether the run was halted
pub record IsOfClosed (r : RunRecord) (c : ClosedSeen) : Type 0 where
  pub logs : r.logs ≡ c.logs
  pub shots : r.shots ≡ map shots_left c.shots
  pub classes : r.classes ≡ class_lines c
  pub halted : r.halted ≡ was_halted c
