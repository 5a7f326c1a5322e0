use Rattle.std.proofs.Common.{◌∙◌}
use Rattle.heap_table.proofs.Opens.{numbers_more}
use Rattle.heap_table.proofs.opening.push_numbers.Goals as goal

pub loop-number-preserved : goal.loop-number-preserved
loop-number-preserved c = c.in_ok-push.ensures.items ∙ numbers_more _ _ c.loop-number.number c.loop-number.invariant
