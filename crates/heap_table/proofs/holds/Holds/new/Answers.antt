use Rattle.std.proofs.Common.{arith}
use Rattle.plain_monitor.specs.Limits.{most_holds}
use Rattle.heap_table.proofs.Held.{none_used}
use Rattle.heap_table.proofs.holds.Holds.new.Goals as goal

pub invariant_of-result : goal.invariant_of-result
invariant_of-result c = record {
  within = omega arith;
  rest = λ i l. none_used most_holds i;
  tight = λ h. absurd (omega (arith, h));
  stacks = λ _ i l. absurd (omega (arith, l));
}
