-- Guesses of where names stand.
use Rattle.std.specs.Prelude.{ℕ, List, Option, Some, None, if◌then◌else◌, ⊤}
use Rattle.std.specs.List.{AllByRecursion}
use Rattle.std.specs.Str.{bytes_eq}
use Rattle.program_syntax.specs.Directory.{IsPlace}
use Rattle.bias_check.specs.declared.finder.Guess.{Guess}

-- what the guess says of its name is so
abbrev pub IsGuess : List (List ℕ) → Option Guess → Type 0
IsGuess names None = ⊤
IsGuess names (Some g) = IsPlace names g.name (Some g.place)

abbrev pub AreGuesses : List (List ℕ) → List (Option Guess) → Type 0
AreGuesses names guesses = AllByRecursion (λ g. IsGuess names g) guesses

-- the place by a guess, where its name is the word
abbrev pub place_by : Option Guess → List ℕ → Option ℕ
place_by None word = None
place_by (Some g) word = if bytes_eq g.name word then Some g.place else None
