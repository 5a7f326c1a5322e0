-- What the seats of a pool know, and what lies in its slots at the end.
use Rattle.std.specs.Prelude.{◌≡◌, ◌⊎◌, ℕ, List, slice_get, Option, Some, Bool}
use Rattle.turn_pool.specs.declared.rule.SeatView.{SeatView}
use Rattle.turn_pool.specs.declared.word.Word.{Word}
use Rattle.turn_pool.specs.declared.word.Word.TheVariants.{Ended, Stopped}

abbrev pub seat_view : ℕ → Option ℕ → Bool → SeatView
seat_view p h o = record { parts = p; held = h; over = o }

-- all parts that there are
abbrev pub all_parts : ℕ
all_parts = 64

-- how many words the table has: ready, ended, stopped and the hints lie 16 from one another
abbrev pub width : ℕ
width = 49

-- what lies in the slots at the end where all is over: all have ended, or one has stopped all
abbrev pub EndsOver : {S : Type 0} → (Word → ℕ → S → Type 0) → List S → Type 0
EndsOver {S} Is xs =
    ((i : ℕ) (y : S) → slice_get xs i ≡ Some y → Is Ended i y)
    ⊎ ((i : ℕ) × (y : S) × (slice_get xs i ≡ Some y) × Is Stopped i y)
