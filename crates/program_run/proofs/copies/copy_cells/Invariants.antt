use Rattle.std.proofs.Common.{◌≡◌, take}
use Rattle.heap_table.specs.Cells.{cells_shown}
use Rattle.program_run.specs.Left.{cells_left}
use Rattle.program_run.proofs.copies.copy_cells.Given as goal

abbrev pub invariant-loop-cell : goal.invariant-loop-cell
invariant-loop-cell l = l.copied.items ≡ cells_left (cells_shown (take l.cell-index l.cells))
