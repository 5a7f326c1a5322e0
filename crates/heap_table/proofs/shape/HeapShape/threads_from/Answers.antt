use Rattle.std.proofs.Common.{arith, length}
use Rattle.core_world.specs.Words.Shape.{Shape}
use Rattle.heap_table.proofs.Sizes.{words_few}
use Rattle.heap_table.proofs.shape.HeapShape.threads_from.Goals as goal

pub returns-clause-low : goal.returns-clause-low
returns-clause-low c =
    let own = c.self.inside in
    let s : Shape = record { threads = own.threads; classes = own.classes; declared = own.declared; objects = own.objects.items } in
    let limits = c.self.invariant.0 in
    let few = words_few s (length own.objects.items) limits limits.objects in
    let classes = limits.classes in let is = c.self.invariant.3 in omega (arith, few, classes, is)
