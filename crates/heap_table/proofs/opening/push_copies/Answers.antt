use Rattle.std.proofs.Common.{◌∙◌}
use Rattle.heap_table.proofs.Opens.{one_more}
use Rattle.heap_table.proofs.opening.push_copies.Goals as goal

pub loop-i-preserved : goal.loop-i-preserved
loop-i-preserved c = c.in_ok-extend_from_slice.ensures.items ∙ one_more _ _ c.args.group.now c.loop-i._i c.loop-i.invariant
