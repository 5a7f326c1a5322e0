use Rattle.std.proofs.Common.{◌∙◌}
use Rattle.heap_table.proofs.Opens.{one_made_more}
use Rattle.heap_table.proofs.shape.push_made.Goals as goal

pub loop-i-preserved : goal.loop-i-preserved
loop-i-preserved c = c.in_ok-push.ensures.items ∙ one_made_more _ _ c.loop-i._i c.args.slots c.loop-i.invariant
