-- What writing puts into a sink.
use Rattle.std.specs.Prelude.{◌≡◌, ℕ, List, ◌++◌, Option, Some}

-- the sink holds these bytes after what it held, where it tells that
abbrev pub Wrote : Option (List ℕ) → Option (List ℕ) → List ℕ → Type 0
Wrote held_before held_after bytes = (held : List ℕ) → held_before ≡ Some held → held_after ≡ Some (held ++ bytes)

-- it holds a front of the text after what it held
abbrev pub WroteFront : Option (List ℕ) → Option (List ℕ) → List ℕ → Type 0
WroteFront held_before held_after text =
    (front : List ℕ) × (rest : List ℕ) × (text ≡ front ++ rest) × Wrote held_before held_after front
