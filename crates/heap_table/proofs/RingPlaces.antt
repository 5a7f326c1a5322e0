-- The least power of two that is at least the number of monitors is how many places the ring has.
use Rattle.std.proofs.Common.{◌≡◌, ℕ, zero, suc, ◌+◌, ◌*◌, ◌/◌, ◌^◌, ◌<◌, ◌≤◌, nat_le, max, Bool, true, false, cond, refl, sym, ap, ◌∙◌, subst, arith, inl, inr}
use Rattle.std.proofs.Math.Nat.{pow-suc}
use Rattle.std.proofs.lemmas.Nat.{pow_pos}
use Rattle.std.proofs.lemmas.Bool.{cases_lt}
use Rattle.std.proofs.lemmas.Bool.Decides.{nat_tests}
use lib.Pow.{pow_mono}
use Rattle.core_world.specs.Words.Shape.{Shape, IsInLimits, monitor_count, bits_for, ring_bits}
use Rattle.core_world.proofs.deflation.Rings.{ring_few, ring_enough}

-- a test that fails at b says that no power up to 2 ^ b is large enough
least_of : (c : Bool) (b k m n : ℕ) → nat_le n (2 ^ b) ≡ c → n ≤ 2 ^ k → b ≤ k → (b + 1 ≤ k → m ≤ k) → cond c b m ≤ k
least_of true b k m n e h within next = within
least_of false b k m n e h within next = elim (cases_lt b k) [
  | inl more ↦ next (omega (arith, more))
  | inr same ↦
      let large : 2 ^ b < n = grind (arith, nat_tests, e) in
      let is : k ≡ b = omega (arith, within, same) in
      let small : n ≤ 2 ^ b = subst (λ j. n ≤ 2 ^ j) is h in absurd (omega (arith, large, small))
]

bits_least : (f b n k : ℕ) → n ≤ 2 ^ k → b ≤ k → bits_for f b n ≤ k
bits_least zero b n k h within = within
bits_least (suc f) b n k h within = least_of (nat_le n (2 ^ b)) b k (bits_for f (b + 1) n) n refl h within (λ more. bits_least f (b + 1) n k h more)

ring_least : (s : Shape) (k : ℕ) → monitor_count s ≤ 2 ^ k → ring_bits s ≤ k
unfolding ring_bits
ring_least s k h = bits_least 15 0 (monitor_count s) k h (omega arith)

-- a power of two that is large enough, and of which half isn't
same_bits : (s : Shape) (m k : ℕ) → IsInLimits s → m ≡ 2 ^ k → monitor_count s ≤ m → m / 2 < max 1 (monitor_count s) → ring_bits s ≡ k
same_bits s m zero limits is enough half = let least = ring_least s 0 (omega (arith, is, enough)) in omega (arith, least)
same_bits s m (suc j) limits is enough half =
    let least = ring_least s (suc j) (omega (arith, is, enough)) in
    let twice : m ≡ 2 ^ j * 2 = is ∙ pow-suc 2 j in
    let all = ring_enough s limits in
    let some = pow_pos (ring_bits s) in
    elim (cases_lt j (ring_bits s)) [
      | inl more ↦ omega (arith, least, more)
      | inr few ↦ let low : 2 ^ ring_bits s ≤ 2 ^ j = pow_mono few in absurd (omega (arith, twice, half, all, some, low))
    ]

pub ring_is : (s : Shape) (m k : ℕ) → IsInLimits s → m ≡ 2 ^ k → monitor_count s ≤ m → m / 2 < max 1 (monitor_count s) → m ≡ 2 ^ ring_bits s
ring_is s m k limits is enough half = is ∙ ap (λ j. 2 ^ j) (sym (same_bits s m k limits is enough half))

-- they are from 1 to 32768
pub places_some : (s : Shape) → 1 ≤ 2 ^ ring_bits s
places_some s = let some = pow_pos (ring_bits s) in omega (arith, some)

pub places_few : (s : Shape) → 2 ^ ring_bits s ≤ 32768
places_few s = let most : 2 ^ ring_bits s ≤ 2 ^ 15 = pow_mono (ring_few s) in omega (arith, most)
