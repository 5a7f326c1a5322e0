use Rattle.std.proofs.Common.{◌≡◌, length}
use Rattle.journal_tests.proofs.lines.ended.Given as goal

abbrev pub invariant-loop-t : goal.invariant-loop-t
invariant-loop-t l =
    record {
      program : l.machine.program ≡ l.program;
      threads : length l.machine.threads ≡ length l.program.threads;
    }
