-- What a read does to what a source has left, where the source tells that.
use Rattle.std.specs.Prelude.{◌≡◌, ℕ, List, [], take, drop, Option, Some}

-- a read that gave n bytes: they are the first that were left, they stand at the buffer's front, and are left no more
abbrev pub Gives : Option (List ℕ) → Option (List ℕ) → List ℕ → ℕ → Type 0
Gives old new buffer n =
    (bytes : List ℕ) → old ≡ Some bytes → (take n buffer ≡ take n bytes) × (new ≡ Some (drop n bytes))

-- nothing is left
abbrev pub IsAtEnd : Option (List ℕ) → Type 0
IsAtEnd left = (bytes : List ℕ) → left ≡ Some bytes → bytes ≡ []
