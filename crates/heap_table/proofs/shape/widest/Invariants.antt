use Rattle.std.proofs.Common.{◌≡◌, take}
use Rattle.heap_table.specs.Layout.{widest}
use Rattle.heap_table.proofs.shape.widest.Given as goal

abbrev pub invariant-loop-object : goal.invariant-loop-object
invariant-loop-object l = l.most ≡ widest (take l.object-index l.objects)
