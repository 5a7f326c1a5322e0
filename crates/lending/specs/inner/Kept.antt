-- The rule of the table: things in slots, each at home or out with one seat.
use Rattle.std.specs.Prelude.{◌≡◌, ℕ, ◌<◌, ◌≤◌, List, [], ◌∷◌, length, slice_index, Option, Some}
use mathlib.Core.Option.{some}
use lib.ListN.{get_elem?}
use Rattle.atomic_table.specs.Table.{State, Me}
use Rattle.lending.specs.Lending.{most, AreAt, LieBelow}

-- while word i is 1, slot i is at home with a thing that may lie there
pub record Kept {S V : Type 0} (Is : ℕ → S → Type 0) (s : State (Option S) V) : Type 0 where
  pub width : length s.words ≡ most
  pub home : (i : ℕ) → i < length s.homes → slice_index s.words i ≡ 1
      → (y : S) × (get_elem? s.homes i ≡ some (some (Some y))) × Is i y

-- where the word was 1 the seat has taken slot k, with a thing that lay there
abbrev pub Took : {S V : Type 0} → (ℕ → S → Type 0) → ℕ → ℕ → Me (Option S) V → Type 0
Took {S} Is k n after = n ≡ 1 → (y : S) × Is k y × (after.1 ≡ (k, Some y) ∷ [])

-- at the end: word i is 1, and the thing y lies in slot i
abbrev pub LayHome : {S : Type 0} → List ℕ → List (Option S) → ℕ → S → Type 0
LayHome ws xs i y = (get_elem? ws i ≡ some 1) × (get_elem? xs i ≡ some (Some y))

-- these are the things of the first i slots that were at home
pub record SoFar {S : Type 0} (Is : ℕ → S → Type 0) (i : ℕ) (xs : List S) : Type 0 where
  pub few : length xs ≤ i
  pub all : length xs ≡ i → AreAt Is xs
  pub some : LieBelow Is i xs
