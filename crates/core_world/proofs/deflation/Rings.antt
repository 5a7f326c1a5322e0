-- The ring: how many places it has, and which positions have the same place.
use Rattle.std.proofs.Common.{◌≡◌, ◌≢◌, ℕ, zero, suc, ◌+◌, ◌-◌, ◌*◌, ◌/◌, ◌%◌, ◌^◌, ◌<◌, ◌≤◌, nat_le}
use Rattle.std.proofs.Common.{Bool, true, false, cond, refl, sym, ap, ◌∙◌, subst, arith, inl, inr}
use Rattle.std.proofs.lemmas.Nat.{div-add-mod', mod_below, pow_pos, mod-mul-add, mod-pow-add, mod_low}
use Rattle.std.proofs.Math.Nat.{suc-mul}
use Rattle.std.proofs.lemmas.Bool.{cases_lt}
use Rattle.std.proofs.lemmas.Bool.Decides.{nat_tests}
use Rattle.core_world.specs.Words.Shape.{Shape, IsInLimits, monitor_count, bits_for, ring_bits}

most_of : (c : Bool) (b f m : ℕ) → m ≤ b + 1 + f → cond c b m ≤ b + suc f
most_of true b f m h = omega arith
most_of false b f m h = omega (arith, h)

bits_most : (f b n : ℕ) → bits_for f b n ≤ b + f
bits_most zero b n = omega arith
bits_most (suc f) b n = most_of (nat_le n (2 ^ b)) b f (bits_for f (b + 1) n) (bits_most f (b + 1) n)

enough_of : (c : Bool) (b m n : ℕ) → nat_le n (2 ^ b) ≡ c → n ≤ 2 ^ m → n ≤ 2 ^ cond c b m
enough_of true b m n e h = grind (arith, nat_tests, e)
enough_of false b m n e h = h

bits_enough : (f b n : ℕ) → n ≤ 2 ^ (b + f) → n ≤ 2 ^ bits_for f b n
bits_enough zero b n h = let same : b + 0 ≡ b = omega arith in subst (λ m. n ≤ 2 ^ m) same h
bits_enough (suc f) b n h = enough_of (nat_le n (2 ^ b)) b (bits_for f (b + 1) n) n refl
    (bits_enough f (b + 1) n (let same : b + suc f ≡ b + 1 + f = omega arith in subst (λ m. n ≤ 2 ^ m) same h))

pub ring_few : (s : Shape) → ring_bits s ≤ 15
unfolding ring_bits
ring_few s = bits_most 15 0 (monitor_count s)

-- each monitor has a place
pub ring_enough : (s : Shape) → IsInLimits s → monitor_count s ≤ 2 ^ ring_bits s
unfolding ring_bits
ring_enough s h = bits_enough 15 0 (monitor_count s) (omega (arith, h.threads, h.objects))

-- the place of a position is that of its word
pub place_of_word : (n b : ℕ) → b ≤ 64 → n % 2 ^ 64 % 2 ^ b ≡ n % 2 ^ b
place_of_word n b h =
    let all : 64 - b + b ≡ 64 = omega (arith, h) in
    let split = mod-pow-add n (64 - b) b in
    ap (λ j. n % 2 ^ j % 2 ^ b) (sym all) ∙ ap (λ m. m % 2 ^ b) split ∙ mod_low (n / 2 ^ b % 2 ^ (64 - b)) b (n % 2 ^ b) (mod_below n (2 ^ b) (pow_pos b))

module _ (p d b : ℕ) (some : 0 < d) (small : d < 2 ^ b) (e : (p + d) % 2 ^ b ≡ p % 2 ^ b) where
  abbrev r : ℕ
  r = p % 2 ^ b

  abbrev q : ℕ
  q = p / 2 ^ b

  whole : q * 2 ^ b + r ≡ p
  whole = div-add-mod' p (2 ^ b)

  low : r < 2 ^ b
  low = mod_below p (2 ^ b) (pow_pos b)

  in_row : r + d < 2 ^ b → ⊥
  in_row h =
      let is = mod-mul-add q (2 ^ b) (r + d) h in
      let same : q * 2 ^ b + (r + d) ≡ p + d = omega (arith, whole) in
      let a : r + d ≡ r = sym is ∙ ap (λ n. n % 2 ^ b) same ∙ e in
      omega (arith, a, some)

  next_row : 2 ^ b ≤ r + d → ⊥
  next_row h =
      let is = mod-mul-add (suc q) (2 ^ b) (r + d - 2 ^ b) (omega (arith, low, small)) in
      let row = suc-mul q (2 ^ b) in
      let same : suc q * 2 ^ b + (r + d - 2 ^ b) ≡ p + d = omega (arith, whole, h, row) in
      let a : r + d - 2 ^ b ≡ r = sym is ∙ ap (λ n. n % 2 ^ b) same ∙ e in
      omega (arith, a, small, low, h)

  meet_nowhere : ⊥
  meet_nowhere = elim (cases_lt (r + d) (2 ^ b)) [ inl a ↦ in_row a | inr a ↦ next_row a ]

-- two positions less than a round apart have different places
pub places_differ : (p d b : ℕ) → 0 < d → d < 2 ^ b → (p + d) % 2 ^ b ≢ p % 2 ^ b
places_differ p d b some small e = meet_nowhere p d b some small e
