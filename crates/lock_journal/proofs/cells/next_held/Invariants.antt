use Rattle.std.proofs.Common.{◌≡◌, ◌-◌, length, drop}
use Rattle.object_program.specs.Program.{ProgramText}
use Rattle.lock_journal.specs.RunText.{cells_lines}
use Rattle.lock_journal.proofs.cells.next_held.Given as goal

-- the cells so far have no owner
abbrev pub invariant-loop-object : goal.invariant-loop-object
invariant-loop-object l = (p : ProgramText) → cells_lines p l.first (drop l.first l.cells) ≡ cells_lines p l.object (drop l.object l.cells)

abbrev pub decreases-loop-object : goal.decreases-loop-object
decreases-loop-object l = length l.cells - l.object
