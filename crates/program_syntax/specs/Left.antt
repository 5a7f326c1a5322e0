-- What is left of a text while it is read.
use Rattle.std.specs.Prelude.{◌≡◌, ◌==◌, ℕ, true, false, not, List, [], length, filter, Option, Some, None, MatchOption}
use Rattle.std.specs.List.{slice_split}
use Rattle.program_syntax.specs.Text.{is_blank, is_empty}
use Rattle.program_syntax.specs.Reading.{operand}
use Rattle.program_syntax.specs.Refusal.{lines_of}

-- the lines of what is left; after the last line nothing is left
abbrev pub lines_left : Option (List ℕ) → List (List ℕ)
lines_left None = []
lines_left (Some text) = lines_of text

-- the words of a line without a comment, or of what is left of it
abbrev pub words_in : List ℕ → List (List ℕ)
words_in text = filter (λ w. not (is_empty w)) (slice_split is_blank text)

-- the word that these are, where they are only one
abbrev pub IsOnlyWord : List (List ℕ) → Option (List ℕ) → Type 0
IsOnlyWord ws only = MatchOption only ((length ws == 1) ≡ false) (λ w. ((length ws == 1) ≡ true) × (operand ws 0 ≡ w))
