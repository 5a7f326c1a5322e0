-- The newest hold, where the hold words tell it.
use Rattle.std.specs.Prelude.{◌≡◌, ℕ, ◌+◌, ◌<◌, Bool, true, List}
use Rattle.core_world.specs.Locks.{hold_count}
use Rattle.core_world.specs.Trees.Plans.{top_place}

-- There are so many holds of the object, at least one, and the newest of them is at this place.
abbrev pub IsNewestOf : List ℕ → ℕ → ℕ → ℕ → Type 0
IsNewestOf hs o depth place = (depth ≡ hold_count o hs) × (place ≡ top_place o hs) × (0 < depth)

-- The place is the last of so many in use, which are known to stand as they were taken.
abbrev pub IsLastOf : Bool → ℕ → ℕ → Type 0
IsLastOf stacked used place = (stacked ≡ true) × (place + 1 ≡ used)
