use Rattle.heap_table.proofs.Opens.{shape_fits}
use Rattle.heap_table.proofs.shape.HeapShape.of.Goals as goal

pub with_size-requires : goal.with_size-requires
with_size-requires c =
    shape_fits c.args.threads c.args.slots.now c.args.classes.now c.args.declared _
    c.requires.counts c.requires.declared c.requires.slots c.requires.classes c.in-Ok.ensures
