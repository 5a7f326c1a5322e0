use Rattle.std.proofs.Common.{◌≡◌, map, take}
use Rattle.std.specs.Prelude.{slice_index}
use Rattle.heap_table.proofs.shape.objects_of.Given as goal

abbrev pub invariant-loop-class : goal.invariant-loop-class
invariant-loop-class l = l.objects.items ≡ map (λ c. (c, slice_index l.slots c)) (take l.class-index l.classes)
