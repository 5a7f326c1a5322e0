use Rattle.std.proofs.Common.{◌≡◌, ◌++◌}
use Rattle.heap_table.specs.inner.Openings.{numbers}
use Rattle.heap_table.proofs.opening.push_numbers.Given as goal

abbrev pub invariant-loop-number : goal.invariant-loop-number
invariant-loop-number l = l.words.items ≡ l.fn.words.items ++ numbers l.number
