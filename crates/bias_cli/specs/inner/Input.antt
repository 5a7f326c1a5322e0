-- Reading piece by piece.
use Rattle.std.specs.Prelude.{◌≡◌, ℕ, List, ◌++◌, take, drop, Option, Some}

-- n further bytes are read after these
abbrev pub TookMore : ℕ → Option (List ℕ) → Option (List ℕ) → List ℕ → List ℕ → Type 0
TookMore n left_before left_after bytes_before bytes_after =
    (left : List ℕ) → left_before ≡ Some left → (bytes_after ≡ bytes_before ++ take n left)
    × (left_after ≡ Some (drop n left))
