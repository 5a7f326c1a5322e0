use Rattle.std.proofs.Common.{◌≤◌}
use Rattle.plain_monitor.specs.Limits.{most_holds}
use Rattle.heap_table.specs.Held.{IsEmptyFrom}
use Rattle.heap_table.proofs.holds.last_used.Given as goal

abbrev pub invariant-loop-used : goal.invariant-loop-used
invariant-loop-used l = (l.used ≤ most_holds) × IsEmptyFrom l.used l.words

abbrev pub decreases-loop-used : goal.decreases-loop-used
decreases-loop-used l = l.used
