-- Numbers are read back from their digits.
use Rattle.std.proofs.Common.{◌≡◌, ℕ, ◌+◌, ◌-◌, ◌*◌, ◌/◌, ◌%◌, ◌^◌, ◌<◌, ◌≤◌, ◌==◌, Bool, true, false, List, []}
use Rattle.std.proofs.Common.{◌∷◌, ◌++◌, length, refl, ap, ◌∙◌, arith, Some, ℤ, pos, negsuc, suc, le-leb}
use Rattle.std.specs.Prelude.{decimal, unwrap_or, nat_abs}
use Rattle.std.specs.Fmt.{signed_decimal}
use Rattle.std.specs.List.{list_all}
use Rattle.std.proofs.lemmas.Bool.{and_parts}
use Rattle.std.proofs.lemmas.Bool.Decides.{nat_tests}
use Rattle.std.proofs.lemmas.Fmt.{decimal_by_steps, decimal_nonempty, length-decimal-le}
use Rattle.std.proofs.lemmas.Int.{ints}
use Rattle.plain_monitor.specs.Numbers.{IsInRange, least_number, greatest_number}
use Rattle.object_program.specs.Name.{is_digit}
use Rattle.program_syntax.specs.Number.{number_after, digits_of, number_of, is_within}
use Rattle.program_syntax.proofs.CanonicalText.{is_word_byte, is_word}

digit_is : (d : ℕ) → d < 10 → is_digit (48 + d) ≡ true
digit_is d h = grind (arith, nat_tests)

-- one more digit after the others
one_more_by : (k b : ℕ) (ds : List ℕ) (v d : ℕ) (t : Bool) → is_digit b ≡ t → number_after k (b ∷ ds) ≡ Some v
    → (number_after (10 * k + (b - 48)) ds ≡ Some v → number_after (10 * k + (b - 48)) (ds ++ (48 + d) ∷ []) ≡ Some (10 * v + d))
    → number_after k ((b ∷ ds) ++ (48 + d) ∷ []) ≡ Some (10 * v + d)
one_more_by k b ds v d true e h ih = let g = rw e at h in rw e (ih g)
one_more_by k b ds v d false e h ih = let g = rw e at h in absurd (cc g)

one_more : (k : ℕ) (ds : List ℕ) (v d : ℕ) → d < 10 → number_after k ds ≡ Some v → number_after k (ds ++ (48 + d) ∷ []) ≡ Some (10 * v + d)
one_more k [] v d lt h =
    let same : k ≡ v = cc in
    let value : 10 * k + (48 + d - 48) ≡ 10 * v + d = omega arith in
    rw (digit_is d lt, value) refl
one_more k (b ∷ ds) v d lt h =
    one_more_by k b ds v d (is_digit b) refl h (one_more (10 * k + (b - 48)) ds v d lt)

-- what a number's digits are: they give the number, and are no sign
pub record IsDecimal (n : ℕ) (ds : List ℕ) : Type 0 where
  pub value : number_after 0 ds ≡ Some n
  pub digits : list_all is_digit ds ≡ true

one_digit : (n : ℕ) → n < 10 → IsDecimal n ((48 + n) ∷ [])
one_digit n lt = record {
  value = let v : 10 * 0 + (48 + n - 48) ≡ n = omega arith in rw (digit_is n lt) (ap Some v);
  digits = rw (digit_is n lt) refl;
}

digits_push : (ds : List ℕ) (d : ℕ) → d < 10 → list_all is_digit ds ≡ true → list_all is_digit (ds ++ (48 + d) ∷ []) ≡ true
digits_push [] d lt h = rw (digit_is d lt) refl
digits_push (b ∷ ds) d lt h = let parts = and_parts (is_digit b) (list_all is_digit ds) h in rw parts.0 (digits_push ds d lt parts.1)

more_digits : (n : ℕ) (ds : List ℕ) → 10 ≤ n → IsDecimal (n / 10) ds → IsDecimal n (ds ++ (48 + n % 10) ∷ [])
more_digits n ds h k = record {
  value =
      let v : 10 * (n / 10) + n % 10 ≡ n = omega arith in
      one_more 0 ds (n / 10) (n % 10) (omega arith) k.value ∙ ap Some v;
  digits = digits_push ds (n % 10) (omega arith) k.digits;
}

decimal_is : (n : ℕ) → n < 2 ^ 64 → IsDecimal n (decimal n)
decimal_is n h = decimal_by_steps IsDecimal one_digit more_digits n h

-- up to 19 digits
digits_of_is : (ds : List ℕ) (n : ℕ) → IsDecimal n ds → 1 ≤ length ds → length ds ≤ 19 → digits_of ds ≡ Some n
digits_of_is ds n h low high = rw (le-leb 1 (length ds) low, le-leb (length ds) 19 high) h.value

digits_of_decimal : (n : ℕ) → n < 10000000000000000000 → digits_of (decimal n) ≡ Some n
digits_of_decimal n h =
    digits_of_is (decimal n) n (decimal_is n (omega arith)) (omega (arith, decimal_nonempty n (omega arith)))
    (length-decimal-le 19 n (omega arith) (omega arith) (omega arith))

not_minus : (b : ℕ) → is_digit b ≡ true → (b == 45) ≡ false
not_minus b h = grind (arith, nat_tests)

without_sign : (ds : List ℕ) (n : ℕ) → list_all is_digit ds ≡ true → 1 ≤ length ds → digits_of ds ≡ Some n → number_of ds ≡ Some (pos n)
without_sign [] n h low e = absurd (omega arith)
without_sign (b ∷ bs) n h low e = rw (not_minus b (and_parts (is_digit b) (list_all is_digit bs) h).0, e) refl

pub number_of_decimal : (n : ℕ) → n < 10000000000000000000 → number_of (decimal n) ≡ Some (pos n)
number_of_decimal n h =
    without_sign (decimal n) n (decimal_is n (omega arith)).digits (omega (arith, decimal_nonempty n (omega arith))) (digits_of_decimal n h)

pub number_of_signed : (z : ℤ) → IsInRange z → number_of (signed_decimal z) ≡ Some z
number_of_signed (pos n) h = number_of_decimal n (omega (arith, ints, h.1))
number_of_signed (negsuc n) h = rw (digits_of_decimal (suc n) (omega (arith, ints, h.0))) refl

-- digits are the bytes of words
digit_byte : (b : ℕ) → is_digit b ≡ true → is_word_byte b ≡ true
digit_byte b h = grind (arith, nat_tests)

digit_bytes : (ds : List ℕ) → list_all is_digit ds ≡ true → list_all is_word_byte ds ≡ true
digit_bytes [] h = refl
digit_bytes (b ∷ bs) h =
    let parts = and_parts (is_digit b) (list_all is_digit bs) h in rw (digit_byte b parts.0) (digit_bytes bs parts.1)

digits_word : (ds : List ℕ) → list_all is_digit ds ≡ true → 1 ≤ length ds → is_word ds ≡ true
digits_word [] h low = absurd (omega arith)
digits_word (b ∷ bs) h low = digit_bytes (b ∷ bs) h

pub decimal_word : (n : ℕ) → n < 10000000000000000000 → is_word (decimal n) ≡ true
decimal_word n h =
    digits_word (decimal n) (decimal_is n (omega arith)).digits (omega (arith, decimal_nonempty n (omega arith)))

pub signed_word : (z : ℤ) → IsInRange z → is_word (signed_decimal z) ≡ true
signed_word (pos n) h = decimal_word n (omega (arith, ints, h.1))
signed_word (negsuc n) h =
    digit_bytes (decimal (suc n)) (decimal_is (suc n) (omega (arith, ints, h.0))).digits

-- numbers within the bounds of an operand
pub decimal_within : (low high n : ℕ) → low ≤ n → n ≤ high → n < 10000000000000000000 → is_within (pos low) (pos high) (number_of (decimal n)) ≡ true
decimal_within low high n l h lt = rw (number_of_decimal n lt) (grind (arith, ints, nat_tests))

pub signed_within : (z : ℤ) → IsInRange z → is_within least_number greatest_number (number_of (signed_decimal z)) ≡ true
signed_within z h = rw (number_of_signed z h) (grind (arith, ints, nat_tests))

-- the number that a line has at the place of these digits
pub value_of_decimal : (n : ℕ) → n < 10000000000000000000 → unwrap_or (number_of (decimal n)) (pos 0) ≡ pos n
value_of_decimal n h = rw (number_of_decimal n h) refl

pub count_of_decimal : (n : ℕ) → n < 10000000000000000000 → nat_abs (unwrap_or (number_of (decimal n)) (pos 0)) ≡ n
count_of_decimal n h = rw (value_of_decimal n h) refl

pub value_of_signed : (z : ℤ) → IsInRange z → unwrap_or (number_of (signed_decimal z)) (pos 0) ≡ z
value_of_signed z h = rw (number_of_signed z h) refl
