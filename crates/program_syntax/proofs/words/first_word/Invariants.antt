use Rattle.std.proofs.Common.{◌≡◌, length}
use Rattle.program_syntax.specs.Left.{words_in}
use Rattle.program_syntax.proofs.words.first_word.Given as goal

-- what is left has the words
abbrev pub invariant-parts : goal.invariant-parts
invariant-parts l = words_in l.left ≡ words_in l.text

abbrev pub decreases-parts : goal.decreases-parts
decreases-parts l = length l.left
