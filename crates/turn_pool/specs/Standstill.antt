-- When all things stand still: each is at home, and has ended or did nothing in its last turn.
use Rattle.std.specs.Prelude.{◌≡◌, ◌⊎◌, ℕ, ◌<◌}
use Rattle.std.specs.Int.{bit_at}

-- bit i of one of these words stands
abbrev pub InEither : ℕ → ℕ → ℕ → Type 0
InEither i word other = (bit_at word i ≡ 1) ⊎ (bit_at other i ≡ 1)

abbrev pub StandStill : ℕ → ℕ → ℕ → ℕ → Type 0
StandStill n ready ended stalled = (i : ℕ) → i < n → InEither i ready ended × InEither i stalled ended
