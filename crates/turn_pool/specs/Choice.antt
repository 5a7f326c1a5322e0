-- The first place in a circle whose bit stands.
use Rattle.std.specs.Prelude.{◌≡◌, ◌⊎◌, ℕ, ◌<◌, ◌≤◌, Option, None, Some}
use Rattle.std.specs.Int.{bit_at}

-- in a circle from `next` on, place i comes before place k
abbrev pub ComesBefore : ℕ → ℕ → ℕ → Type 0
ComesBefore next i k = ((next ≤ i) × (i < k)) ⊎ ((k < next) × ((i < k) ⊎ (next ≤ i)))

abbrev pub IsFirstFrom : ℕ → ℕ → ℕ → Option ℕ → Type 0
IsFirstFrom word next count None = (i : ℕ) → i < count → bit_at word i ≡ 0
IsFirstFrom word next count (Some k) =
    (k < count) × (bit_at word k ≡ 1) × ((i : ℕ) → i < count → ComesBefore next i k → bit_at word i ≡ 0)
