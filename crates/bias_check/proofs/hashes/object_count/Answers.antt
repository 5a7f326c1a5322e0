use Rattle.std.proofs.Common.{subst, arith}
use Rattle.object_program.specs.Valid.{IsProgram}
use Rattle.object_program.proofs.Made.{total_few}
use Rattle.bias_check.proofs.hashes.object_count.Goals as goal

pub returns-clause-few : goal.returns-clause-few
returns-clause-few c =
    let few = total_few c.args.program.now (subst IsProgram c.program.view_is c.program.invariant) in
    omega (arith, few, c.objects_total.ensures)
