-- Numbers and their words.
use Rattle.std.proofs.Common.{◌≡◌, ℕ, ◌-◌, ◌^◌, ◌<◌, ◌≤◌, Bool, true, false, List, [], ◌∷◌, refl, ap, arith, ℤ, pos, negsuc, bytes_eq, Some}
use Rattle.std.specs.Prelude.{nat_eq, decimal, nat_abs, nat_lt, int_le, option_map}
use Rattle.std.specs.Fmt.{signed_decimal}
use Rattle.std.proofs.lemmas.Bool.{and_parts}
use Rattle.std.proofs.lemmas.Bool.Decides.{nat_tests}
use Rattle.std.proofs.lemmas.Int.{ints}
use Rattle.plain_monitor.specs.Numbers.{IsInRange, least_number, greatest_number}
use Rattle.program_syntax.specs.Number.{number_of, is_within}
use Rattle.program_syntax.proofs.CanonicalNumbers.{number_of_signed}
use Rattle.program_syntax.proofs.CanonicalNames.{same_bytes}
use Rattle.bias_check.specs.inner.Table.{int_in, count_in, count_below, stamp_in}
use Rattle.bias_check.proofs.Options.{and_then, mapped, where_true}
use Rattle.bias_check.proofs.Spellings.{same_word}

pub record IsInt (low high : ℤ) (w : List ℕ) (z : ℤ) : Type 0 where
  pub text : signed_decimal z ≡ w
  pub within : is_within low high (Some z) ≡ true

pub int_is : (low high : ℤ) (w : List ℕ) (z : ℤ) → int_in low high w ≡ Some z → IsInt low high w z
int_is low high w z h =
    and_then _ (number_of w) z h (λ y some k.
    where_true _ y z k (λ t same.
    let parts = and_parts (is_within low high (Some y)) (bytes_eq (signed_decimal y) w) t in
    rw (← same) (record { text = same_word (signed_decimal y) w parts.1; within = parts.0 })))

pub int_read : (low high z : ℤ) → IsInRange z → is_within low high (Some z) ≡ true → int_in low high (signed_decimal z) ≡ Some z
int_read low high z range within = rw (number_of_signed z range, within, same_bytes (signed_decimal z)) refl

pub value_int_read : (z : ℤ) → IsInRange z → int_in least_number greatest_number (signed_decimal z) ≡ Some z
value_int_read z range = int_read least_number greatest_number z range (grind (arith, ints, nat_tests))

-- a natural number within bounds
pub record IsCount (low high : ℕ) (w : List ℕ) (n : ℕ) : Type 0 where
  pub text : decimal n ≡ w
  pub low_is : low ≤ n
  pub high_is : n ≤ high

count_by : (low high : ℕ) (w : List ℕ) (n : ℕ) (z : ℤ) → IsInt (pos low) (pos high) w z → nat_abs z ≡ n → IsCount low high w n
count_by low high w n (pos k) h e =
    let parts = and_parts (int_le (pos low) (pos k)) (int_le (pos k) (pos high)) h.within in
    let same : k ≡ n = e in
    rw (← same) (record { text = h.text; low_is = grind (arith, ints, nat_tests, parts.0); high_is = grind (arith, ints, nat_tests, parts.1) })
count_by low high w n (negsuc k) h e =
    let parts = and_parts (int_le (pos low) (negsuc k)) (int_le (negsuc k) (pos high)) h.within in absurd (cc parts.0)

counted : (low high : ℕ) (w : List ℕ) (n : ℕ) → option_map nat_abs (int_in (pos low) (pos high) w) ≡ Some n → IsCount low high w n
counted low high w n h =
    mapped nat_abs (int_in (pos low) (pos high) w) n h (λ z some e. count_by low high w n z (int_is (pos low) (pos high) w z some) e)

count_within : (low high n : ℕ) → low ≤ n → n ≤ high → is_within (pos low) (pos high) (Some (pos n)) ≡ true
count_within low high n h k = grind (arith, ints, nat_tests)

small_in_range : (n : ℕ) → n < 2 ^ 46 → IsInRange (pos n)
small_in_range n h = (grind (arith, ints), grind (arith, ints))

pub count_is : (w : List ℕ) (n : ℕ) → count_in w ≡ Some n → IsCount 0 (2 ^ 32 - 1) w n
count_is w n h = counted 0 (2 ^ 32 - 1) w n h

pub count_read : (n : ℕ) → n < 2 ^ 32 → count_in (decimal n) ≡ Some n
count_read n h =
    ap (λ o. option_map nat_abs o) (int_read (pos 0) (pos (2 ^ 32 - 1)) (pos n)
    (small_in_range n (omega (arith, h))) (count_within 0 (2 ^ 32 - 1) n (omega arith) (omega (arith, h))))

pub record IsBelow (limit : ℕ) (w : List ℕ) (n : ℕ) : Type 0 where
  pub text : decimal n ≡ w
  pub below : n < limit

pub below_is : (limit : ℕ) (w : List ℕ) (n : ℕ) → count_below limit w ≡ Some n → IsBelow limit w n
below_is limit w n h =
    and_then _ (count_in w) n h (λ k some e.
    where_true (nat_lt k limit) k n e (λ t same.
    rw (← same) (record { text = (count_is w k some).text; below = grind (arith, nat_tests) })))

pub below_read : (limit n : ℕ) → n < 2 ^ 32 → n < limit → count_below limit (decimal n) ≡ Some n
below_read limit n h k =
    let t : nat_lt n limit ≡ true = grind (arith, nat_tests) in
    rw (count_read n h, t) refl

-- a stamp
pub record IsStamp (w : List ℕ) (s : ℕ) : Type 0 where
  pub text : 64 ∷ decimal s ≡ w
  pub below : s < 2 ^ 46

stamp_by : (b : ℕ) (digits : List ℕ) (s : ℕ) (t : Bool) → nat_eq b 64 ≡ t → stamp_in (b ∷ digits) ≡ Some s → IsStamp (b ∷ digits) s
stamp_by b digits s true e h =
    let k = counted 0 (2 ^ 46 - 1) digits s (rw e at h) in
    let at : b ≡ 64 = grind (arith, nat_tests) in
    record { text = rw (at, k.text) refl; below = omega (arith, k.high_is) }
stamp_by b digits s false e h = absurd (cc (rw e at h))

pub stamp_is : (w : List ℕ) (s : ℕ) → stamp_in w ≡ Some s → IsStamp w s
stamp_is [] s h = absurd (cc h)
stamp_is (b ∷ digits) s h = stamp_by b digits s (nat_eq b 64) refl h

pub stamp_read : (s : ℕ) → s < 2 ^ 46 → stamp_in (64 ∷ decimal s) ≡ Some s
stamp_read s h =
    ap (λ o. option_map nat_abs o)
    (int_read (pos 0) (pos (2 ^ 46 - 1)) (pos s) (small_in_range s h) (count_within 0 (2 ^ 46 - 1) s (omega arith) (omega (arith, h))))
