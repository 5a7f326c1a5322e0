use Rattle.std.proofs.Common.{◌≡◌}
use Rattle.plain_machine.specs.Running.{run_on}
use Rattle.plain_machine.proofs.run.run.Given as goal

abbrev pub invariant-loop-left : goal.invariant-loop-left
invariant-loop-left l = record {
  runs : run_on l.program l.code l.left l.thread ≡ run_on l.program l.code l.fn.fuel l.initial.thread;
  holds : l.thread.holds ≡ l.initial.thread.holds;
}

abbrev pub decreases-loop-left : goal.decreases-loop-left
decreases-loop-left l = l.left
