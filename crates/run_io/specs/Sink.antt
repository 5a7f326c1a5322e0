-- What a write does to what a sink holds, where the sink tells that.
use Rattle.std.specs.Prelude.{◌≡◌, ℕ, List, ◌++◌, take, Option, Some}

-- a write that took the first n bytes of the piece: they stand after what was held
abbrev pub Appends : Option (List ℕ) → Option (List ℕ) → List ℕ → ℕ → Type 0
Appends old new piece n = (bytes : List ℕ) → old ≡ Some bytes → new ≡ Some (bytes ++ take n piece)
