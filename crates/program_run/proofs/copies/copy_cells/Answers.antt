use Rattle.std.proofs.Common.{List, ap, ◌∙◌}
use Rattle.std.proofs.lemmas.List.{take_all}
use Rattle.heap_table.specs.declared.shots.Cell.{Cell}
use Rattle.heap_table.specs.Cells.{cells_shown}
use Rattle.program_run.specs.Left.{cells_left}
use Rattle.program_run.proofs.Pushed.{cells_on}
use Rattle.program_run.proofs.copies.copy_cells.Goals as goal

pub loop-cell-init : goal.loop-cell-init
loop-cell-init c = c.in_ok-copied.ensures.items

pub loop-cell-preserved : goal.loop-cell-preserved
loop-cell-preserved c =
    cells_on c.args.cells.now c.loop-cell.cell-index _ _ _ c.loop-cell-test.true c.loop-cell.invariant c.in_ok-push.ensures.items

pub returns : goal.returns
returns c =
    c.loop-cell.invariant
    ∙ ap (λ (cells : List Cell). cells_left (cells_shown cells)) (take_all c.loop-cell.cell-index c.args.cells.now c.loop-cell-test.false)
