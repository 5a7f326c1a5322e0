use Rattle.closed_heap_laws.proofs.OtherEnds.{gapped, twice_stamped, high, early}
use Rattle.closed_heap_laws.proofs.refused.no_stamps_with_a_gap_or_twice.Goals as goal

pub returns-clause-gap : goal.returns-clause-gap
returns-clause-gap c = gapped

pub returns-clause-twice : goal.returns-clause-twice
returns-clause-twice c = twice_stamped

pub returns-clause-high : goal.returns-clause-high
returns-clause-high c = high

pub returns-clause-early : goal.returns-clause-early
returns-clause-early c = early
