use Rattle.std.proofs.Common.{◌≡◌, replicate, None}
use Rattle.bias_check.proofs.finder.no_guesses.Given as goal

abbrev pub invariant-loop : goal.invariant-loop
invariant-loop l = l.guesses.items ≡ replicate l.counter None
