use Rattle.std.proofs.Common.{◌≡◌, ◌*◌, ℕ, ap, arith}
use Rattle.core_world.specs.Words.Shape.{Shape}
use Rattle.heap_table.specs.Layout.{object_size}
use Rattle.heap_table.proofs.Sizes.{words_few}
use Rattle.heap_table.proofs.shape.HeapShape.words_of.Goals as goal

pub returns-clause-low : goal.returns-clause-low
returns-clause-low c =
    let own = c.self.inside in
    let s : Shape = record { threads = own.threads; classes = own.classes; declared = own.declared; objects = own.objects.items } in
    let few = words_few s c.args.objects c.self.invariant.0 c.requires in
    let is : own.size * c.args.objects ≡ object_size s * c.args.objects = ap (λ (n : ℕ). n * c.args.objects) c.self.invariant.1 in omega (arith, few, is)
