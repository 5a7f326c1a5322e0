-- How many words the group of each object has: room for each slot that the object has, and few in the limits; and products with such a number.
use Rattle.std.proofs.Common.{◌≡◌, ◌⊎◌, ℕ, zero, suc, ◌+◌, ◌-◌, ◌*◌, ◌/◌, ◌<◌, ◌≤◌, ◌==◌, nat_lt, max, Bool, true, false}
use Rattle.std.proofs.Common.{cond, Less, Equal, Greater, List, [], ◌∷◌, length, refl, sym, ap, ◌∙◌, arith, inl, inr}
use Rattle.std.specs.Prelude.{take, get_or}
use Rattle.std.specs.List.{AllByRecursion}
use Rattle.std.specs.Ordering.{is_lt, ord_max, nat_cmp}
use Rattle.std.proofs.lemmas.Bool.Decides.{nat_tests}
use Rattle.std.proofs.Math.Nat.{mul-suc, mul-add, mul-le-mul, mul-le-mul_left}
use Rattle.std.proofs.Math.Seq.{take-suc}
use Rattle.std.proofs.lemmas.Bool.{cases_lt}
use Rattle.std.proofs.lemmas.List.Recursion.{max_push}
use Rattle.plain_monitor.specs.Limits.{most_slots, most_in_all}
use Rattle.core_world.specs.Words.Shape.{Shape, IsInLimits, slots_of}
use Rattle.heap_table.specs.Layout.{widest, object_size}

widest_of : (xs : List (ℕ × ℕ)) (o : ℕ) → (get_or xs o (0, 0)).1 ≤ widest xs
widest_of [] o = omega arith
widest_of (x ∷ xs) zero = omega arith
widest_of (x ∷ xs) (suc o) = let h = widest_of xs o in omega (arith, h)

-- a slot that an object has lies 8 words or more before the end of the object's group
pub size_room : (s : Shape) (o i : ℕ) → i < slots_of s o → 3 + i + 8 ≤ object_size s
unfolding object_size
size_room s o i h = let most = widest_of s.objects o in omega (arith, h, most)

pub size_some : (s : Shape) → 16 ≤ object_size s
unfolding object_size
size_some s = omega arith

widest_within : (xs : List (ℕ × ℕ)) (n : ℕ) → AllByRecursion (λ x. (x.0 < n) × (x.1 ≤ most_slots)) xs → widest xs ≤ most_slots
widest_within [] n h = omega arith
widest_within (x ∷ xs) n h = let first = h.0.1 in let rest = widest_within xs n h.1 in omega (arith, first, rest)

pub widest_few : (s : Shape) → IsInLimits s → widest s.objects ≤ most_slots
widest_few s limits = widest_within s.objects s.classes limits.each

-- how many words the group of an object with so many slots has
abbrev pub rounded : ℕ → ℕ
rounded n = 8 * ((n + 10 + 7) / 8)

-- what the size is computed from
pub size_of : (s : Shape) (n : ℕ) → n ≡ widest s.objects → rounded n ≡ object_size s
unfolding object_size
size_of s n e = ap rounded e

pub size_is : (s : Shape) → IsInLimits s → (object_size s ≡ 16) ⊎ (object_size s ≡ 24) ⊎ (object_size s ≡ 32)
unfolding object_size
size_is s limits = let few = widest_few s limits in by_slots (widest s.objects) few
  where
    by_slots : (n : ℕ) → n ≤ most_slots → (rounded n ≡ 16) ⊎ (rounded n ≡ 24) ⊎ (rounded n ≡ 32)
    by_slots n few = elim (cases_lt n 7) [
      | inl low ↦ inl (omega (arith, low))
      | inr not_low ↦ elim (cases_lt n 15) [
        | inl middle ↦ inr (inl (omega (arith, not_low, middle)))
        | inr high ↦ inr (inr (omega (arith, high, few)))
      ]
    ]

pub size_few : (s : Shape) → IsInLimits s → object_size s ≤ 32
size_few s limits = elim (size_is s limits) [ inl e ↦ omega (arith, e) | inr d ↦ elim d [ inl e ↦ omega (arith, e) | inr e ↦ omega (arith, e) ] ]

-- all objects have few words
pub words_few : (s : Shape) (n : ℕ) → IsInLimits s → n ≤ most_in_all → object_size s * n ≤ 655360
words_few s n limits h = let most : object_size s * n ≤ 32 * most_in_all = mul-le-mul (size_few s limits) h in omega (arith, most)

-- the slots of one more object are looked at
pub widest_more : (xs : List (ℕ × ℕ)) (i : ℕ) → i < length xs → max (widest (take i xs)) (get_or xs i (0, 0)).1 ≡ widest (take (suc i) xs)
widest_more xs i h = sym (max_push widest (λ x. x.1) refl (λ x ys. refl) (take i xs) (get_or xs i (0, 0))) ∙ ap widest (sym (take-suc xs i (0, 0) h))

-- the larger of two numbers, as code finds it
larger_by : (a b : ℕ) (less same : Bool) → nat_lt b a ≡ less → cond (is_lt (cond less Less (cond same Equal Greater))) a b ≡ max a b
larger_by a b true same e = let low : b < a = grind (arith, nat_tests, e) in omega (arith, low)
larger_by a b false true e = let high : a ≤ b = grind (arith, nat_tests, e) in omega (arith, high)
larger_by a b false false e = let high : a ≤ b = grind (arith, nat_tests, e) in omega (arith, high)

pub larger_is : (a b : ℕ) → ord_max nat_cmp a b ≡ max a b
larger_is a b = larger_by a b (nat_lt b a) (b == a) refl

-- the next group begins where this one ends, or after that
pub next_row : (d a b : ℕ) → a < b → d * a + d ≤ d * b
next_row d a b h =
    let up : suc a ≤ b = omega (arith, h) in
    let most : d * suc a ≤ d * b = mul-le-mul_left d up in
    let is : d * suc a ≡ d * a + d = mul-suc d a in omega (arith, most, is)

-- the words of the first groups, and of those after them
pub rows_split : (d a n : ℕ) → a ≤ n → d * a + d * (n - a) ≡ d * n
rows_split d a n h = sym (mul-add d a (n - a)) ∙ ap (λ (x : ℕ). d * x) (omega (arith, h))
