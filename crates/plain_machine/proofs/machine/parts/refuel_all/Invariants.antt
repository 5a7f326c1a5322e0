use Rattle.std.proofs.Common.{◌≡◌}
use Rattle.plain_machine.specs.Thread.{ThreadState}
use Rattle.plain_machine.proofs.Places.{first_done}
use Rattle.plain_machine.proofs.machine.parts.refuel_all.Given as goal

abbrev pub invariant-loop-thread : goal.invariant-loop-thread
invariant-loop-thread l = l.threads ≡ first_done (λ (s : ThreadState). record s { fuel = l.fuel }) l.thread-index l.initial.threads
