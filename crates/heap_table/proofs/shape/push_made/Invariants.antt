use Rattle.std.proofs.Common.{◌≡◌, ◌++◌, replicate}
use Rattle.heap_table.proofs.shape.push_made.Given as goal

abbrev pub invariant-loop-i : goal.invariant-loop-i
invariant-loop-i l = l.objects.items ≡ l.fn.objects.items ++ replicate l._i (0, l.slots)
