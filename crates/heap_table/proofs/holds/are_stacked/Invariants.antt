use Rattle.heap_table.specs.Held.{IsStacked}
use Rattle.heap_table.proofs.holds.are_stacked.Given as goal

abbrev pub invariant-loop-place : goal.invariant-loop-place
invariant-loop-place l = IsStacked l.place l.words
