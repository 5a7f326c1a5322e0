use Rattle.std.proofs.Common.{◌≡◌, ◌≤◌, ℕ, Some, vec_len, vec_capacity, slice_get, length}
use Rattle.pool_tests.specs.declared.countdown.Countdown.{Countdown}
use Rattle.pool_tests.proofs.runs.countdowns.Given as goal

abbrev pub invariant-loop-i : goal.invariant-loop-i
invariant-loop-i l =
    record {
      made : vec_len l.all ≡ l.i;
      room : length l.lefts ≤ vec_capacity l.all;
      named : (i : ℕ) (y : Countdown) → slice_get l.all.items i ≡ Some y → y.name ≡ i;
    }
