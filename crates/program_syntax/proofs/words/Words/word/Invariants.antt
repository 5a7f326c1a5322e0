use Rattle.std.proofs.Common.{◌≡◌, drop}
use Rattle.program_syntax.proofs.words.Words.word.Given as goal

-- those are left that were not passed
abbrev pub invariant-loop : goal.invariant-loop
invariant-loop l = l.left ≡ drop l.counter l.self
