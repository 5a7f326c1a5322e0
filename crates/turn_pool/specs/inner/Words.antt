-- The words of a pool by their numbers: word b lies at place 16 * b of the table.
use Rattle.std.specs.Prelude.{ℕ, zero, suc}
use Rattle.turn_pool.specs.declared.word.Word.{Word}
use Rattle.turn_pool.specs.declared.word.Word.TheVariants.{Ready, Ended, Stopped}

abbrev pub number : Word → ℕ
number Ready = 0
number Ended = 1
number Stopped = 2

-- the word of a number below 3
abbrev pub word_of : ℕ → Word
word_of zero = Ready
word_of (suc zero) = Ended
word_of (suc (suc b)) = Stopped

-- what may lie in a slot, by the number of the word
abbrev pub by_number : {S : Type 0} → (Word → ℕ → S → Type 0) → ℕ → ℕ → S → Type 0
by_number {S} Is b = Is (word_of b)
