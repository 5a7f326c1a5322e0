use Rattle.std.proofs.Common.{◌≡◌, ℕ, false}
use Rattle.thread_calls.specs.Timed.{StaysTimed}
use Rattle.thread_frame.specs.Frames.{has_ended}
use Rattle.thread_interp.specs.Runners.{IsRunner, IsSame}
use Rattle.run_rounds.proofs.turns.check.Given as goal

abbrev pub invariant-loop : goal.invariant-loop
invariant-loop g l = record {
  runner : IsRunner l.run.heap.now l.run.program.now l.runner;
  same : IsSame l.initial.runner l.runner;
  free : l.runner.pass.known.requesting ≡ l.runner.pass.known.checking;
  live : has_ended l.runner.frame ≡ false;
  timed : (tick : ℕ) → StaysTimed tick l.initial.runner.pass l.runner.pass;
}
