use Rattle.std.proofs.Common.{◌<◌, length}
use Rattle.sync_tests.proofs.fuel.take_all.Given as goal

abbrev pub invariant-loop-entry : goal.invariant-loop-entry
invariant-loop-entry g l = 0 < length l.machine.threads
