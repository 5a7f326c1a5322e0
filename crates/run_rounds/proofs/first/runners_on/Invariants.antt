use Rattle.std.proofs.Common.{◌≡◌, ◌++◌, ◌≤◌, map, length, vec_len, vec_capacity}
use Rattle.run_rounds.specs.inner.First.{runner_on}
use Rattle.run_rounds.proofs.first.runners_on.Given as goal

abbrev pub invariant-loop-pass : goal.invariant-loop-pass
invariant-loop-pass l = record {
  whole : l.yielded ++ l.pass-iterator.rest.items ≡ l.fn.passes;
  items : l.runners.items ≡ map (runner_on l.fuel) l.yielded;
  len : vec_len l.runners ≡ length l.yielded;
  room : length l.fn.passes ≤ vec_capacity l.runners;
}
