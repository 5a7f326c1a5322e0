-- What lies in the slots.
use Rattle.std.specs.Prelude.{◌≡◌, ℕ, ◌<◌, List, slice_get, Some}

-- the most things that there may be
abbrev pub most : ℕ
most = 64

-- thing i may lie in slot i
abbrev pub AreAt : {S : Type 0} → (ℕ → S → Type 0) → List S → Type 0
AreAt {S} Is xs = (i : ℕ) (y : S) → slice_get xs i ≡ Some y → Is i y

-- each of these may lie in one of the first n slots
abbrev pub LieBelow : {S : Type 0} → (ℕ → S → Type 0) → ℕ → List S → Type 0
LieBelow {S} Is n xs = (i : ℕ) (y : S) → slice_get xs i ≡ Some y → (k : ℕ) × (k < n) × Is k y
