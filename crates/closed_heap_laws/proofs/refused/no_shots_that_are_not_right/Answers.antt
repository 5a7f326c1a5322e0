use Rattle.closed_heap_laws.proofs.OtherEnds.{cut_early, other_cells, unordered, lacking}
use Rattle.closed_heap_laws.proofs.refused.no_shots_that_are_not_right.Goals as goal

pub returns-clause-cut : goal.returns-clause-cut
returns-clause-cut c = cut_early

pub returns-clause-cells : goal.returns-clause-cells
returns-clause-cells c = other_cells

pub returns-clause-unordered : goal.returns-clause-unordered
returns-clause-unordered c = unordered

pub returns-clause-lacking : goal.returns-clause-lacking
returns-clause-lacking c = lacking
