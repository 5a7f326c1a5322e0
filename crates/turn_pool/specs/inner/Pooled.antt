-- The rule of a pool's table: things in slots, each at home or out with one seat.
use Rattle.std.specs.Prelude.{◌≡◌, ◌≢◌, ◌-◌, ◌⊎◌, ℕ, ◌+◌, ◌*◌, ◌%◌, ◌^◌, ◌<◌, List, [], ◌∷◌, length, slice_index, None, Some, true}
use Rattle.std.specs.Int.{bit_at, bit_not}
use Rattle.std.specs.Int.Bits.{bit_and}
use mir.Syntax.{w64}
use mathlib.Core.Option.{some}
use lib.ListN.{get_elem?}
use Rattle.atomic_table.specs.Table.{State, Me, Step}
use Rattle.turn_pool.specs.declared.rule.SeatView.{SeatView}
use Rattle.turn_pool.specs.Pool.{seat_view, all_parts, width}

-- the parts of all views
abbrev pub total : List SeatView → ℕ
total [] = 0
total (v ∷ vs) = v.parts + total vs

-- the word that has bit k alone, and the one that lacks it alone
abbrev pub bit_of : ℕ → ℕ
bit_of k = 1 * 2 ^ k % 2 ^ 64

abbrev pub all_but : ℕ → ℕ
all_but k = bit_not w64 (bit_of k)

-- bit i of word b: 0 ready, 1 ended, 2 stopped
abbrev pub bit : List ℕ → ℕ → ℕ → ℕ
bit ws b i = bit_at (slice_index ws (16 * b)) i

-- all have ended, or one stopped all
abbrev pub IsOver : ℕ → List ℕ → Type 0
IsOver n ws = ((i : ℕ) → i < n → bit ws 1 i ≡ 1) ⊎ ((i : ℕ) × (i < n) × (bit ws 2 i ≡ 1))

-- bit i of word b stands where slot i is at home with a thing that may lie there under b
pub record Pooled {S : Type 0} (Is : ℕ → ℕ → S → Type 0) (s : State S SeatView) : Type 0 where
  pub width : length s.words ≡ width
  pub few : length s.homes < 33
  pub home : (b i : ℕ) → b < 3 → i < length s.homes → bit s.words b i ≡ 1
      → (y : S) × (get_elem? s.homes i ≡ some (some y)) × Is b i y
  -- under one word at most
  pub apart : (b c i : ℕ) → b < 3 → c < 3 → i < length s.homes → bit s.words b i ≡ 1 → bit s.words c i ≡ 1 → b ≡ c
  -- each slot is at home, or out with a seat whose view names it
  pub somewhere : (i : ℕ) → i < length s.homes
      → ((b : ℕ) × (b < 3) × (bit s.words b i ≡ 1))
      ⊎ ((id : ℕ) × (v : SeatView) × (get_elem? s.views id ≡ some v) × (v.held ≡ Some i))
  -- what a view names is not at home
  pub away : (id i : ℕ) (v : SeatView) → get_elem? s.views id ≡ some v → v.held ≡ Some i
      → (i < length s.homes) × ((b : ℕ) → b < 3 → bit s.words b i ≡ 0)
  -- and no other view names it
  pub sole : (id other i : ℕ) (v u : SeatView) → get_elem? s.views id ≡ some v → get_elem? s.views other ≡ some u
      → v.held ≡ Some i → u.held ≡ Some i → id ≡ other
  pub parts : total s.views ≡ all_parts
  -- a seat knows that all is over only where it is so
  pub over : (id : ℕ) (v : SeatView) → get_elem? s.views id ≡ some v → v.over ≡ true → IsOver (length s.homes) s.words
  -- a seat without a part holds nothing
  pub idle : (id : ℕ) (v : SeatView) → get_elem? s.views id ≡ some v → v.parts ≡ 0 → v.held ≡ None

-- where the bit stood the slot is taken, with a thing that lay there ready
abbrev pub Took : {S : Type 0} → (ℕ → ℕ → S → Type 0) → Step S → Me S SeatView → ℕ → Me S SeatView → Type 0
Took {S} Is s me n after = (k : ℕ) → k < 64 → s.first ≡ all_but k
    → (bit_at n k ≡ 1 → (y : S) × Is 0 k y × (after ≡ (seat_view me.0.parts (Some k) me.0.over, (k, y) ∷ [])))
    × (bit_at n k ≡ 0 → after ≡ me)

-- where the word has the bits of all slots the seat knows that all is over
abbrev pub SawEnded : {S : Type 0} → Step S → Me S SeatView → ℕ → Me S SeatView → Type 0
SawEnded s me n after =
    (n ≡ 2 ^ s.slots - 1 → after ≡ (seat_view me.0.parts None true, [])) × (n ≢ 2 ^ s.slots - 1 → after ≡ me)

-- and where it has the bit of one of them
abbrev pub SawStopped : {S : Type 0} → Step S → Me S SeatView → ℕ → Me S SeatView → Type 0
SawStopped s me n after =
    (0 < bit_and n (2 ^ s.slots - 1) → after ≡ (seat_view me.0.parts None true, []))
    × (bit_and n (2 ^ s.slots - 1) ≡ 0 → after ≡ me)
