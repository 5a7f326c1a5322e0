use Rattle.std.proofs.Common.{◌≡◌, ◌+◌, sym, arith}
use Rattle.object_program.specs.Program.{total_of}
use Rattle.object_program.proofs.Shapes.{last_total, none_total}
use Rattle.object_program.proofs.program.Program.declared_total.Goals as goal

total : (c : goal.In-Some) → c.in-Some.object.now.first + c.in-Some.object.now.size ≡ total_of c.self.inside.objects
total c =
    let last = last_total _ 0 _ _ c.self.invariant.objects (rw c.items.ensures at c.in-Some.ensures.value) in
    omega (arith, last)

pub overflow_add-result : goal.overflow_add-result
overflow_add-result c = omega (arith, total c, c.self.invariant.objects_few)

pub returns-in-Some : goal.returns-in-Some
returns-in-Some c = rw (← c.self.view_is) (total c)

pub returns-in-None : goal.returns-in-None
returns-in-None c = rw (← c.self.view_is) (sym (none_total c.self.inside.objects (rw c.items.ensures at c.in-None.ensures.value)))
