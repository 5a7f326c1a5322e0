use Rattle.std.proofs.Common.{map}
use Rattle.bias_check.specs.inner.Guesses.{AreGuesses}
use Rattle.bias_check.proofs.finder.guesses_of.Given as goal

abbrev pub invariant-loop-item : goal.invariant-loop-item
invariant-loop-item g l = AreGuesses (map g.T.Named.name_of l.directory) l.guesses.items
