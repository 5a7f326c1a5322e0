-- What is left of a text while it is read.
use Rattle.std.specs.Prelude.{◌==◌, ℕ, List, [], ◌∷◌, length, Option, Some, None, if◌then◌else◌}
use Rattle.program_syntax.specs.Left.{words_in}

-- the words after a blank
abbrev pub words_after : Option (List ℕ) → List (List ℕ)
words_after None = []
words_after (Some text) = words_in text

-- the words of a line that begins with these bytes and a blank
abbrev pub words_from : List ℕ → Option (List ℕ) → List (List ℕ)
words_from part rest = if length part == 0 then words_after rest else part ∷ words_after rest
