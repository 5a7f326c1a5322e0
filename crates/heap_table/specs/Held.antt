-- Hold words of which only the first are in use.
use Rattle.std.specs.Prelude.{◌≡◌, ℕ, ◌+◌, ◌-◌, ◌/◌, ◌^◌, ◌<◌, ◌≤◌, List, take, slice_index}
use Rattle.core_world.specs.Locks.{hold_count}
use Rattle.core_world.specs.Words.Forms.{hold_word}

-- the hold words from this place on are empty
abbrev pub IsEmptyFrom : ℕ → List ℕ → Type 0
IsEmptyFrom n hs = (i : ℕ) → n ≤ i → slice_index hs i ≡ 0

-- the hold word is the one of one more hold of its object, where these are the others
abbrev pub ComesAfter : List ℕ → ℕ → Type 0
ComesAfter hs h = let object : ℕ = h / 128 - 1 in (object < 2 ^ 15) × (h ≡ hold_word object (hold_count object hs + 1))

-- The first hold words stand as they were taken, each after those before it. So none of them is empty, and the last is the newest hold of
-- its object.
abbrev pub IsStacked : ℕ → List ℕ → Type 0
IsStacked n hs = (i : ℕ) → i < n → ComesAfter (take i hs) (slice_index hs i)
