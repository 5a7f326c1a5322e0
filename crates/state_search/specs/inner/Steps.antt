-- What the steps of a search do to the keys that it has found.
use Rattle.std.specs.Prelude.{◌≡◌, ℕ, List, Option, Some, slice_get}
use Rattle.state_search.specs.Found.{Keys}
use Rattle.state_search.specs.Search.{IsUnderWay}

-- each key stays at its place
abbrev pub Keeps : List (List ℕ) → List (List ℕ) → Type 0
Keeps before after = (k : ℕ) (key : List ℕ) → slice_get before k ≡ Some key → slice_get after k ≡ Some key

-- from whichever first key the search goes, it goes on
abbrev pub GoesOn : (List ℕ → ℕ → Option (List ℕ)) → ℕ → ℕ → Keys → Keys → Type 0
GoesOn next many most before after = (first : List ℕ) → IsUnderWay next many first most before → IsUnderWay next many first most after
