-- A text as lines, and a line as words.
use Rattle.std.specs.Prelude.{ℕ, Bool, true, false, not, ◌&&◌, ◌||◌, ◌==◌, nat_le, if◌then◌else◌, List, [], ◌∷◌, filter}
use Rattle.std.specs.List.{slice_split, before_first}

-- how many bytes a text has at most
abbrev pub most_bytes : ℕ
most_bytes = 1048576

-- a line feed ends a line; the last line needs none
abbrev pub raw_lines : List ℕ → List (List ℕ)
raw_lines text = slice_split (λ b. b == 10) text

-- a carriage return at the end of a line is dropped
abbrev pub without_return : List ℕ → List ℕ
without_return [] = []
without_return (b ∷ []) = if b == 13 then [] else b ∷ []
without_return (b ∷ c ∷ bs) = b ∷ without_return (c ∷ bs)

-- a tab, or a printing ASCII character or a space
abbrev pub is_text_byte : ℕ → Bool
is_text_byte b = (b == 9) || (nat_le 32 b && nat_le b 126)

-- a space or a tab
abbrev pub is_blank : ℕ → Bool
is_blank b = (b == 32) || (b == 9)

abbrev pub is_empty : List ℕ → Bool
is_empty [] = true
is_empty (b ∷ bs) = false

-- the words of a line, before its comment, which starts at a number sign
abbrev pub words_of : List ℕ → List (List ℕ)
words_of line = filter (λ w. not (is_empty w)) (slice_split is_blank (before_first (λ b. b == 35) line))
