use Rattle.std.proofs.Common.{◌≡◌, ◌+◌, length}
use Rattle.program_syntax.proofs.words.Words.count_is.Given as goal

-- the words that were passed and those that are left are all
abbrev pub invariant-loop : goal.invariant-loop
invariant-loop l = l.counter + length l.left ≡ length l.self
