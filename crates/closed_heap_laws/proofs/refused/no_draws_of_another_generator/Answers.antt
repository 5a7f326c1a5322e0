use Rattle.closed_heap_laws.proofs.OtherEnds.{other_draw, twice_drawn, drawn_by_nobody, drawn_late}
use Rattle.closed_heap_laws.proofs.refused.no_draws_of_another_generator.Goals as goal

pub returns-clause-other : goal.returns-clause-other
returns-clause-other c = other_draw

pub returns-clause-twice : goal.returns-clause-twice
returns-clause-twice c = twice_drawn

pub returns-clause-nobody : goal.returns-clause-nobody
returns-clause-nobody c = drawn_by_nobody

pub returns-clause-late : goal.returns-clause-late
returns-clause-late c = drawn_late
