use Rattle.std.proofs.Common.{arith}
use Rattle.std.proofs.lemmas.Grind.{common_steps}
use Rattle.plain_machine.proofs.build.new_threads.Goals as goal

pub loop-definition-preserved : goal.loop-definition-preserved
loop-definition-preserved c = record {
  items = c.loop-definition.invariant.items;
  threads = grind (arith, common_steps);
  kept = grind (arith, common_steps);
}
