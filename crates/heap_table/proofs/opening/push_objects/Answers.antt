use Rattle.heap_table.proofs.Opens.{one_object_more}
use Rattle.heap_table.proofs.opening.push_objects.Goals as goal

pub loop-i-preserved : goal.loop-i-preserved
loop-i-preserved c =
    one_object_more _ _ _ _ c.args.size c.args.mark c.loop-i._i c.loop-i.invariant
    c.in_ok-extend_from_slice.ensures.items c.in_ok-push_copies.ensures
