-- Look-ups of names.
use Rattle.std.specs.Prelude.{◌≡◌, ◌<◌, ℕ, true, false, List, length, Option, MatchOption}
use Rattle.program_syntax.specs.Reading.{number_among}
use Rattle.object_program.specs.Valid.{is_among}

-- what a look-up answers: whether the name stands among these, and the number of the first that is it
abbrev pub IsPlace : List (List ℕ) → List ℕ → Option ℕ → Type 0
IsPlace names name place =
    MatchOption place (is_among names name ≡ false)
    (λ n. (is_among names name ≡ true) × (n ≡ number_among names name) × (n < length names))
