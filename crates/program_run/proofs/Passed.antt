-- A dump shows a state that the run passes through.
use Rattle.std.proofs.Common.{◌≡◌, ℕ, List, Some, sym, ap, ◌∙◌}
use Rattle.std.specs.Prelude.{slice_get}
use Rattle.std.specs.List.{AllByRecursion}
use Rattle.std.proofs.lemmas.Option.{same_Some}
use Rattle.heap_table.specs.Seen.{ClosedSeen}
use Rattle.lock_journal.specs.declared.record.RunRecord.{RunRecord}
use Rattle.lock_journal.specs.declared.record.Shot.{Shot}
use Rattle.lock_journal.specs.MachineCells.{cells_in}
use Rattle.object_program.specs.Program.{ProgramText}
use Rattle.object_program.specs.Valid.{IsProgram}
use Rattle.plain_history.specs.Cuts.{IsCutInOrder}
use Rattle.plain_machine.specs.Legal.{machine_after}
use Rattle.plain_machine.specs.Machine.{PlainMachine}
use Rattle.plain_monitor.specs.declared.entry.Logged.{Logged}
use Rattle.plain_monitor.specs.History.{RisesAbove}
use Rattle.plain_monitor.proofs.Lists.{all_at}
use Rattle.thread_logs.specs.Passed.{IsOnTheWay}
use Rattle.program_run.specs.declared.settings.Settings.{Settings}
use Rattle.program_run.specs.Ran.{IsRan}
use Rattle.program_run.specs.Shots.{IsRightShot, shots_of}

-- the law that is asked of machines
abbrev pub Pass : Type 0
Pass =
    (p : ProgramText) (fuel : ℕ) (logs : List (List Logged)) (cut : List ℕ) (last : PlainMachine) → IsProgram p → AllByRecursion (RisesAbove 0) logs
    → IsCutInOrder cut logs → machine_after p fuel logs ≡ Some last → (m : PlainMachine) × IsOnTheWay p fuel logs cut last m

pub shows : Pass → (s : Settings) (p : ProgramText) (r : RunRecord) (c : ClosedSeen) (last : PlainMachine) (t i : ℕ) (shot : Shot) → IsProgram p → IsRan s p r c
    → machine_after p s.fuel r.logs ≡ Some last → slice_get (shots_of r.shots t) i ≡ Some shot
    → (m : PlainMachine) × IsOnTheWay p s.fuel r.logs shot.cut last m × (shot.cells ≡ cells_in m)
shows pass s p r c last t i shot is ran under at =
    let right = all_at (IsRightShot p s.fuel r.logs) (shots_of r.shots t) i shot (ran.shots.right t) at in
    let way = pass p s.fuel r.logs shot.cut last is ran.legal.rises right.in_order under in
    let same : right.machine ≡ way.0 = same_Some right.machine way.0 (sym right.under ∙ way.1.under) in
    (way.0, way.1, right.cells ∙ ap cells_in same)
