use Rattle.std.proofs.Common.{◌≡◌, ◌≤◌, length}
use Rattle.plain_monitor.specs.Limits.{most_threads}
use Rattle.bias_check.specs.inner.Marks.{drawers_to}
use Rattle.bias_check.proofs.hashes.new_drawers.Given as goal

abbrev pub invariant-loop-t : goal.invariant-loop-t
invariant-loop-t l = record {
  drawers : l.drawers.items ≡ drawers_to l.start l.t;
  few : length l.program.threads ≤ most_threads;
}
