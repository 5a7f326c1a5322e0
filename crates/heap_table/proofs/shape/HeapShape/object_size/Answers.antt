use Rattle.std.proofs.Common.{◌≡◌, ◌⊎◌, ℕ, sym, subst}
use Rattle.core_world.specs.Words.Shape.{Shape}
use Rattle.heap_table.proofs.Sizes.{size_is}
use Rattle.heap_table.proofs.shape.HeapShape.object_size.Goals as goal

pub returns-clause-one_of_three : goal.returns-clause-one_of_three
returns-clause-one_of_three c =
    let own = c.self.inside in
    let s : Shape = record { threads = own.threads; classes = own.classes; declared = own.declared; objects = own.objects.items } in
    subst (λ (n : ℕ). (n ≡ 16) ⊎ (n ≡ 24) ⊎ (n ≡ 32)) (sym c.self.invariant.1) (size_is s c.self.invariant.0)
