-- The first place in a circle whose bit stands, by masks.
use Rattle.std.proofs.Common.{◌≡◌, ◌⊎◌, ℕ, ◌-◌, ◌^◌, ◌<◌, ◌≤◌, None, Some, ⊎_elim, sym, ap, ◌∙◌, arith}
use mir.Syntax.{w64}
use Rattle.std.specs.Int.{bit_at, bit_not, trailing_zeros}
use Rattle.std.specs.Int.Bits.{bit_and}
use Rattle.std.proofs.lemmas.Nat.{and_le_l}
use Rattle.std.proofs.lemmas.Nat.Bits.{bit_at-trailing_zeros, bit_at-zero, bit_at_and, bit_at-lt, bit_at_not, bit_at_ones, bit_at_ones_above}
use Rattle.turn_pool.proofs.Bits.{below_or}
use Rattle.turn_pool.specs.Choice.{IsFirstFrom}

-- the bits below n alone, by the number that has no other
module _ (x a n : ℕ) (e : a ≡ 2 ^ n) where
  kept_below : (i : ℕ) → i < n → bit_at (bit_and x (a - 1)) i ≡ bit_at x i
  kept_below i lt =
      let both = bit_at_and x (a - 1) i in
      let one = ap (λ (m : ℕ). bit_at (m - 1) i) e ∙ bit_at_ones n i lt in
      let few = bit_at-lt x i in
      omega (arith, both, one, few)

  none_above : (i : ℕ) → n ≤ i → bit_at (bit_and x (a - 1)) i ≡ 0
  none_above i le =
      let both = bit_at_and x (a - 1) i in
      let none = ap (λ (m : ℕ). bit_at (m - 1) i) e ∙ bit_at_ones_above n i le in
      omega (arith, both, none)

  module _ (fits : a - 1 < 2 ^ 64) where
    -- and those from n on
    kept_from : (i : ℕ) → n ≤ i → i < 64 → bit_at (bit_and x (bit_not w64 (a - 1))) i ≡ bit_at x i
    kept_from i le lt =
        let both = bit_at_and x (bit_not w64 (a - 1)) i in
        let none = ap (λ (m : ℕ). bit_at (m - 1) i) e ∙ bit_at_ones_above n i le in
        let other = bit_at_not w64 (a - 1) i fits lt in
        let few = bit_at-lt x i in
        omega (arith, both, none, other, few)

    none_before : (i : ℕ) → i < n → i < 64 → bit_at (bit_and x (bit_not w64 (a - 1))) i ≡ 0
    none_before i lt small =
        let both = bit_at_and x (bit_not w64 (a - 1)) i in
        let one = ap (λ (m : ℕ). bit_at (m - 1) i) e ∙ bit_at_ones n i lt in
        let other = bit_at_not w64 (a - 1) i fits small in
        omega (arith, both, one, other)

module _ (word next count a b : ℕ) (few : count < 33) (fits : word < 2 ^ 64) (all : a ≡ 2 ^ count) (first : b ≡ 2 ^ next)
    (small : b - 1 < 2 ^ 64) where
  abbrev here : ℕ
  here = bit_and word (a - 1)

  abbrev later : ℕ
  later = bit_and here (bit_not w64 (b - 1))

  of_here : (k : ℕ) → bit_at here k ≡ 1 → (k < count) × (bit_at word k ≡ 1)
  of_here k one = ⊎_elim
      (λ (lt : k < count). (lt, sym (kept_below word a count all k lt) ∙ one))
      (λ (le : count ≤ k). absurd (let none = none_above word a count all k le in omega (arith, none, one)))
      (below_or k count)

  none_later : (i : ℕ) → next ≤ i → i < count → bit_at later i ≡ 0 → bit_at word i ≡ 0
  none_later i le lt none =
      sym (kept_below word a count all i lt) ∙ sym (kept_from here b next first small i le (omega (arith, lt, few))) ∙ none

  pub from_later : 0 < later → IsFirstFrom word next count (Some (trailing_zeros w64 later))
  from_later some =
      let l = and_le_l word (a - 1) in
      let m = and_le_l here (bit_not w64 (b - 1)) in
      let t = bit_at-trailing_zeros w64 later some (omega (arith, l, m, fits)) in
      let k : ℕ = trailing_zeros w64 later in
      let from : next ≤ k = ⊎_elim
      (λ (lt : k < next). absurd (let none = none_before here b next first small k lt t.0 in let one = t.1 in omega (arith, none, one)))
      (λ (le : next ≤ k). le)
      (below_or k next) in
      let at = of_here k (sym (kept_from here b next first small k from t.0) ∙ t.1) in (
        at.0,
        at.1,
        λ i lt before. ⊎_elim
            (λ (x : (next ≤ i) × (i < k)). none_later i x.0 lt (t.2 i x.1))
            (λ (x : (k < next) × ((i < k) ⊎ (next ≤ i))). absurd (let y = x.0 in omega (arith, y, from)))
            before,
      )

  pub from_here : later ≡ 0 → 0 < here → IsFirstFrom word next count (Some (trailing_zeros w64 here))
  from_here none some =
      let l = and_le_l word (a - 1) in
      let t = bit_at-trailing_zeros w64 here some (omega (arith, l, fits)) in
      let k : ℕ = trailing_zeros w64 here in
      let at = of_here k t.1 in
      let before : (i : ℕ) → i < count → i < k → bit_at word i ≡ 0 = λ i lt less. sym (kept_below word a count all i lt) ∙ t.2 i less in
      let after : (i : ℕ) → i < count → next ≤ i → bit_at word i ≡ 0 =
      λ i lt le. none_later i le lt (ap (λ (m : ℕ). bit_at m i) none ∙ bit_at-zero i) in (
        at.0,
        at.1,
        λ i lt is. ⊎_elim
            (λ (x : (next ≤ i) × (i < k)). before i lt x.1)
            (λ (x : (k < next) × ((i < k) ⊎ (next ≤ i))). ⊎_elim (λ (y : i < k). before i lt y) (λ (y : next ≤ i). after i lt y) x.1)
            is,
      )

  pub nowhere : here ≡ 0 → IsFirstFrom word next count None
  nowhere none i lt = sym (kept_below word a count all i lt) ∙ ap (λ (m : ℕ). bit_at m i) none ∙ bit_at-zero i
