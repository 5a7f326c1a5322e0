-- Words that stand one after the other, and what is read off the front of them.
use Rattle.std.specs.Prelude.{ℕ, zero, suc, ◌+◌, ◌-◌, ◌==◌, if◌then◌else◌, List, [], ◌∷◌, Option, Some, None}
use Rattle.plain_monitor.specs.declared.entry.Value.{Value}
use Rattle.plain_monitor.specs.declared.entry.Value.TheVariants.{Nil}
use Rattle.plain_monitor.specs.ValueWords.{read_value}

-- a number that may be missing
abbrev pub option_word : Option ℕ → ℕ
option_word None = 0
option_word (Some n) = n + 1

abbrev pub word_option : ℕ → Option ℕ
word_option w = if w == 0 then None else Some (w - 1)

-- pairs of numbers, each as two words
abbrev pub pair_words : List (ℕ × ℕ) → List ℕ
pair_words [] = []
pair_words (p ∷ ps) = p.0 ∷ p.1 ∷ pair_words ps

-- so many numbers, and the words after them
abbrev pub read_numbers : ℕ → List ℕ → List ℕ × List ℕ
read_numbers zero ws = ([], ws)
read_numbers (suc n) (w ∷ ws) = (w ∷ (read_numbers n ws).0, (read_numbers n ws).1)
read_numbers (suc n) [] = ([], [])

-- so many pairs, and the words after them
abbrev pub read_pairs : ℕ → List ℕ → List (ℕ × ℕ) × List ℕ
read_pairs zero ws = ([], ws)
read_pairs (suc n) (a ∷ b ∷ ws) = ((a, b) ∷ (read_pairs n ws).0, (read_pairs n ws).1)
read_pairs (suc n) ws = ([], [])

-- the value of a word; nil where it is the word of none
abbrev pub value_or_nil : Option Value → Value
value_or_nil None = Nil
value_or_nil (Some v) = v

abbrev pub value_at : ℕ → Value
value_at w = value_or_nil (read_value w)

-- so many values, and the words after them
abbrev pub read_values : ℕ → List ℕ → List Value × List ℕ
read_values zero ws = ([], ws)
read_values (suc n) (w ∷ ws) = (value_at w ∷ (read_values n ws).0, (read_values n ws).1)
read_values (suc n) [] = ([], [])
