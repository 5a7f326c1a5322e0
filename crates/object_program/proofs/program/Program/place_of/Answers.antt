use Rattle.std.proofs.Common.{length, arith}
use Rattle.object_program.proofs.Shapes.{objects_few}
use Rattle.object_program.proofs.program.Program.place_of.Goals as goal

pub place_among-requires : goal.place_among-requires
place_among-requires c =
    let k = objects_few (length c.self.inside.classes) 0 c.self.inside.objects c.self.invariant.objects in
    rw c.items.ensures (omega (arith, k, c.self.invariant.objects_few))
