-- A text that has a program and a journal: the lines of the program, a line that is the marker, and the lines of the journal.
use Rattle.std.specs.Prelude.{◌≡◌, ℕ, ◌==◌, ◌≤◌, Bool, true, if◌then◌else◌, List, [], ◌∷◌, ◌++◌, codes, length}
use Rattle.std.specs.List.{list_any}
use Rattle.std.specs.Str.{bytes_eq}
use Rattle.bias_check.specs.Lines.{lines_of}

abbrev pub marker : List ℕ
marker = codes "%journal\n"

abbrev pub is_marker : List ℕ → Bool
is_marker line = bytes_eq line marker

-- each line of the text has its line feed: the text is empty, or its last byte is one
abbrev pub lines_are_terminated : List ℕ → Bool
lines_are_terminated [] = true
lines_are_terminated (b ∷ []) = b == 10
lines_are_terminated (b ∷ c ∷ bs) = lines_are_terminated (c ∷ bs)

-- the bytes of the lines before the first marker
abbrev pub before_marker : List (List ℕ) → List ℕ
before_marker [] = []
before_marker (line ∷ lines) = if is_marker line then [] else line ++ before_marker lines

-- the lines after it
abbrev pub after_marker : List (List ℕ) → List (List ℕ)
after_marker [] = []
after_marker (line ∷ lines) = if is_marker line then lines else after_marker lines

abbrev pub has_journal : List ℕ → Bool
has_journal text = list_any is_marker (lines_of text)

-- the text of the program
abbrev pub program_part : List ℕ → List ℕ
program_part text = before_marker (lines_of text)

-- the lines of the journal
abbrev pub journal_part : List ℕ → List (List ℕ)
journal_part text = after_marker (lines_of text)

-- the text has a marker, and these are its program and its journal
pub record ArePartsOf (text program journal : List ℕ) : Type 0 where
  pub marked : has_journal text ≡ true
  pub program_is : program ≡ program_part text
  pub journal_is : lines_of journal ≡ journal_part text
  pub within : length journal ≤ length text
