use Rattle.lock_runtime.specs.Standing.{IsStopped}
use Rattle.embed_example.specs.Between.{IsBeside}
use Rattle.embed_example.proofs.set_running.Given as goal

abbrev pub invariant-loop : goal.invariant-loop
invariant-loop g l = record {
  beside : IsBeside l.heap l.initial.pass l.pass;
  stopped : IsStopped l.pass.known;
}
