use Rattle.std.proofs.Common.{arith}
use Rattle.std.proofs.lemmas.List.{length_push}
use Rattle.object_program.specs.declared.program.ObjectDef.{ObjectDef}
use Rattle.program_syntax.proofs.AllowedParts.{total_of-push}
use Rattle.program_syntax.proofs.declare.with_objects.Goals as goal

pub invariant_of-result : goal.invariant_of-result
invariant_of-result c =
    let d : ObjectDef = record {
      name = c.of-name.result;
      class = c.number_of-class.result;
      first = c.args.declared.total;
      size = c.args.size;
      array = c.args.array;
    } in
    let one = length_push c.args.declared.objects d in
    let all = total_of-push c.args.declared.objects d in
    record {
      classes_few = c.args.declared.classes_few;
      objects_few = rw c.in_ok-objects.ensures (omega arith);
      total_is = rw c.in_ok-objects.ensures (omega arith);
      total_small = omega arith;
    }
