-- A line as words: a space between each two, and a line feed after the last.
use Rattle.std.specs.Prelude.{ℕ, ◌==◌, if◌then◌else◌, List, [], ◌∷◌, Option, Some, None, option_map}
use Rattle.std.specs.List.{slice_split}

-- the words between the spaces
abbrev pub words_of : List ℕ → List (List ℕ)
words_of text = slice_split (λ b. b == 32) text

-- the words of what is left of a line; after the last word nothing is left
abbrev pub words_after : Option (List ℕ) → List (List ℕ)
words_after None = []
words_after (Some text) = words_of text

-- what stands before this byte at the end
abbrev pub before_last : ℕ → List ℕ → Option (List ℕ)
before_last c [] = None
before_last c (b ∷ []) = if b == c then Some [] else None
before_last c (b ∷ d ∷ bs) = option_map (λ front. b ∷ front) (before_last c (d ∷ bs))

-- the line without its line feed
abbrev pub unended : List ℕ → Option (List ℕ)
unended line = before_last 10 line
