use Rattle.std.proofs.Common.{◌≡◌, ◌++◌}
use Rattle.heap_table.specs.inner.Openings.{copies, object_words}
use Rattle.heap_table.proofs.opening.push_objects.Given as goal

abbrev pub invariant-loop-i : goal.invariant-loop-i
invariant-loop-i l = l.words.items ≡ l.fn.words.items ++ copies l._i (object_words l.size l.mark)
