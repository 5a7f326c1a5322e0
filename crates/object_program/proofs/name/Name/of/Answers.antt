use Rattle.object_program.proofs.Names.{name_kept}
use Rattle.object_program.proofs.name.Name.of.Goals as goal

pub invariant_of-result : goal.invariant_of-result
invariant_of-result c = rw c.copy_from_slice.ensures.after (name_kept c.args.bytes.now c.requires)
