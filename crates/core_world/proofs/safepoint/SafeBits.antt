-- The safepoint word with one thread's bit set or cleared.
use Rattle.std.proofs.Common.{◌≡◌, ◌≢◌, ℕ, ◌+◌, ◌<◌, ◌^◌, ◌==◌, Bool, true, false, Option, Some, None, sym}
use Rattle.std.proofs.Common.{ap, ◌∙◌, subst, arith, eqb-true, ◌-◌, IfSome, bit_and, ◌*◌, inl, inr}
use Rattle.std.proofs.lemmas.Bool.Decides.{nat_tests}
use Rattle.std.proofs.lemmas.Nat.{pow_below, and_comm, and-not, or_disjoint, or_lt}
use Rattle.std.proofs.lemmas.Nat.Bits.{bit_at-zero, bit_at-pow_same, bit_at-pow_other, bit_at-lt, bit_at_above, bit_at_and}
use Rattle.std.proofs.lemmas.Nat.Bits.{bit_at_or, bit_at_not, bit_at_cat_low, and_pow, same_from_bits_below}
use Rattle.mark_word.specs.declared.safe.SafeForm.{SafeForm}
use Rattle.mark_word.specs.Safe.{safe_of, IsSafeInRange, requester_of, halt_of}
use Rattle.core_world.specs.Words.Forms.{runs_form}
use Rattle.core_world.specs.Trees.SafepointSteps.{all_but}
use Rattle.std.proofs.lemmas.Bool.{cases_lt}
use Rattle.std.specs.Int.{bit_at}
use Rattle.std.specs.Int.RustNames.{bit_or}
use mir.Syntax.{w64}

module _ (n t : ℕ) (small : n < 2 ^ 64) (within : t < 64) where
  -- a number that has the bit, with the bit cleared
  cleared_sum : bit_at n t ≡ 1 → bit_and n (all_but t) + 2 ^ t ≡ n
  cleared_sum e =
      let split = and-not 64 (2 ^ t) n (pow_below t 64 within) small in
      let turned = and_comm n (all_but t) in
      let mine : bit_and (2 ^ t) n ≡ 1 * 2 ^ t = and_comm (2 ^ t) n ∙ and_pow n t ∙ ap (λ d. d * 2 ^ t) e in
      omega (arith, split, turned, mine)

  cleared_is : bit_at n t ≡ 1 → n - 2 ^ t ≡ bit_and n (all_but t)
  cleared_is e = let whole = cleared_sum e in omega (arith, whole)

  -- its other bits stay
  cleared_other : (i : ℕ) → bit_at n t ≡ 1 → i ≢ t → bit_at (n - 2 ^ t) i ≡ bit_at n i
  cleared_other i e d = elim (cases_lt i 64) [
    | inl low ↦
        let mask = bit_at_not w64 (2 ^ t) i (pow_below t 64 within) low in
        ap (λ m. bit_at m i) (cleared_is e) ∙ omega (arith, bit_at_and n (all_but t) i, mask, bit_at-pow_other t i d, bit_at-lt n i)
    | inr high ↦ bit_at_above (n - 2 ^ t) 64 i (omega arith) high ∙ sym (bit_at_above n 64 i small high)
  ]

  cleared_bit : bit_at n t ≡ 1 → bit_at (n - 2 ^ t) t ≡ 0
  cleared_bit e =
      let mask = bit_at_not w64 (2 ^ t) t (pow_below t 64 within) within in
      ap (λ m. bit_at m t) (cleared_is e) ∙ omega (arith, bit_at_and n (all_but t) t, mask, bit_at-pow_same t)

  -- a number that lacks the bit, with the bit set
  set_is : bit_at n t ≡ 0 → n + 2 ^ t ≡ bit_or n (2 ^ t)
  set_is e = sym (or_disjoint n (2 ^ t) (and_pow n t ∙ ap (λ d. d * 2 ^ t) e ∙ omega arith))

  set_other : (i : ℕ) → bit_at n t ≡ 0 → i ≢ t → bit_at (n + 2 ^ t) i ≡ bit_at n i
  set_other i e d = let none = bit_at-pow_other t i d in ap (λ m. bit_at m i) (set_is e) ∙ omega (arith, bit_at_or n (2 ^ t) i, none)

  set_bit : bit_at n t ≡ 0 → bit_at (n + 2 ^ t) t ≡ 1
  set_bit e = let one = bit_at-pow_same t in ap (λ m. bit_at m t) (set_is e) ∙ omega (arith, bit_at_or n (2 ^ t) t, one, e)

-- a test of a bit tells the bit
tested_set : (f : SafeForm) (t : ℕ) → runs_form (Some f) t ≡ true → bit_at f.running t ≡ 1
tested_set f t e = eqb-true (bit_at f.running t) 1 e

tested_unset : (f : SafeForm) (t : ℕ) → runs_form (Some f) t ≡ false → bit_at f.running t ≡ 0
tested_unset f t e = let low = bit_at-lt f.running t in grind (arith, nat_tests, e, low)

-- where no bit is set, the field is 0
pub no_bits : (f : SafeForm) → IsSafeInRange f → ((t : ℕ) → runs_form (Some f) t ≡ false) → f.running ≡ 0
no_bits f range h = same_from_bits_below 32 f.running 0 range.0 (omega arith) (λ i low. tested_unset f i (h i) ∙ sym (bit_at-zero i))

-- the state without the bit of t, and with it
abbrev pub without : SafeForm → ℕ → SafeForm
without f t = record f { running = f.running - 2 ^ t }

abbrev pub including : SafeForm → ℕ → SafeForm
including f t = record f { running = f.running + 2 ^ t }

module _ (f : SafeForm) (t : ℕ) (range : IsSafeInRange f) (within : t < 32) where
  wide : f.running < 2 ^ 64
  wide = let low = range.0 in omega arith

  -- the test of another bit depends on the bit alone
  pub without_other : (u : ℕ) → runs_form (Some f) t ≡ true → u ≢ t → runs_form (Some (without f t)) u ≡ runs_form (Some f) u
  without_other u e d = ap (λ n. n == 1) (cleared_other f.running t wide (omega arith) u (tested_set f t e) d)

  pub without_mine : runs_form (Some f) t ≡ true → runs_form (Some (without f t)) t ≡ false
  without_mine e = ap (λ n. n == 1) (cleared_bit f.running t wide (omega arith) (tested_set f t e))

  pub including_other : (u : ℕ) → runs_form (Some f) t ≡ false → u ≢ t → runs_form (Some (including f t)) u ≡ runs_form (Some f) u
  including_other u e d = ap (λ n. n == 1) (set_other f.running t wide (omega arith) u (tested_unset f t e) d)

  pub including_mine : runs_form (Some f) t ≡ false → runs_form (Some (including f t)) t ≡ true
  including_mine e = ap (λ n. n == 1) (set_bit f.running t wide (omega arith) (tested_unset f t e))

  -- both are in range
  pub without_range : IsSafeInRange (without f t)
  without_range = let low = range.0 in (omega arith, range.1)

  pub including_range : runs_form (Some f) t ≡ false → IsSafeInRange (including f t)
  including_range e =
      let low = or_lt 32 f.running (2 ^ t) range.0 (pow_below t 32 within) in
      (subst (λ n. n < 2 ^ 32) (sym (set_is f.running t wide (omega arith) (tested_unset f t e))) low, range.1)

  -- to mask the word is to clear the bit
  pub masked : runs_form (Some f) t ≡ true → bit_and (safe_of f) (all_but t) ≡ safe_of (without f t)
  masked e =
      let high = requester_of f.requester + halt_of f.halted * 2 ^ 8 in
      let word : safe_of f ≡ high * 2 ^ 32 + f.running = omega arith in
      let bit : bit_at (safe_of f) t ≡ 1 = ap (λ n. bit_at n t) word ∙ bit_at_cat_low high 32 f.running t within ∙ tested_set f t e in
      let field = cleared_sum f.running t wide (omega arith) (tested_set f t e) in
      let whole = cleared_sum (safe_of f) t (word_small f.requester f.halted range.1) (omega arith) bit in
      omega (arith, field, whole)
    where
      word_small : (r : Option ℕ) (h : Bool) → IfSome r (λ thread. thread < 32) → f.running + requester_of r * 2 ^ 32 + halt_of h * 2 ^ 40 < 2 ^ 64
      word_small None true k = omega (arith, range.0)
      word_small (Some u) true k = omega (arith, range.0)
      word_small _ _ k = omega (arith, range.0)
