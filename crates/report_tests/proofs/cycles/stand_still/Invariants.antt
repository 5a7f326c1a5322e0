use Rattle.std.proofs.Common.{◌≡◌, length}
use Rattle.report_tests.proofs.cycles.stand_still.Given as goal

abbrev pub invariant-loop : goal.invariant-loop
invariant-loop l = length l.machine.threads ≡ length l.program.threads
