use Rattle.std.proofs.Common.{◌≡◌, length}
use Rattle.report_tests.proofs.cycles.turn_each.Given as goal

abbrev pub invariant-loop-t : goal.invariant-loop-t
invariant-loop-t l = length l.machine.threads ≡ length l.program.threads
