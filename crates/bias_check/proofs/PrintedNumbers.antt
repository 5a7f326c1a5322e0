-- Which words of numbers are written as numbers are printed.
use Rattle.std.proofs.Common.{◌≡◌, ◌≢◌, ℕ, zero, suc, ◌+◌, ◌-◌, ◌*◌, ◌^◌, ◌<◌, ◌≤◌, Bool, true, false, List, [], ◌∷◌}
use Rattle.std.proofs.Common.{length, get_or, refl, sym, ap, subst, ◌∙◌, arith, lit<, ℤ, pos, bytes_eq, Some}
use Rattle.std.specs.Prelude.{◌&&◌, not, decimal, nat_eq, nat_le, neg_ℤ}
use Rattle.std.specs.Fmt.{signed_decimal}
use Rattle.std.specs.Str.Parse.{AllDigits, digits_value_after}
use Rattle.std.specs.Char.{digit_value}
use Rattle.std.proofs.lemmas.Bool.{and_parts, false_from_ne_true}
use Rattle.std.proofs.lemmas.Bool.Decides.{nat_tests}
use Rattle.std.proofs.lemmas.Fmt.{decimal_digit, decimal-digits_value, first_decimal}
use Rattle.std.proofs.lemmas.Int.Digits.{digits_value-lt}
use Rattle.std.proofs.lemmas.Str.{digit_value_digit}
use Rattle.std.proofs.lemmas.Str.Parse.{numerals_by_value, tells_digits}
use Rattle.std.proofs.Math.Nat.{pow-le-pow_right}
use Rattle.object_program.specs.Name.{is_digit}
use Rattle.program_syntax.specs.Number.{number_after, digits_of, number_of}
use Rattle.program_syntax.proofs.CanonicalNames.{same_bytes}
use Rattle.bias_check.specs.inner.Printed.{is_printed}
use Rattle.bias_check.proofs.Options.{mapped}
use Rattle.bias_check.proofs.Spellings.{same_word}

-- the digits that give a number, as the library says it
record HasValue (k : ℕ) (ds : List ℕ) (n : ℕ) : Type 0 where
  pub digits : AllDigits 10 ds
  pub value : digits_value_after 10 k ds ≡ n

digit_bounds : (b : ℕ) → is_digit b ≡ true → (48 ≤ b) × (b ≤ 57)
digit_bounds b h = (grind (arith, nat_tests), grind (arith, nat_tests))

value_by : (k b : ℕ) (ds : List ℕ) (n : ℕ) (t : Bool) → is_digit b ≡ t → number_after k (b ∷ ds) ≡ Some n
    → (number_after (10 * k + (b - 48)) ds ≡ Some n → HasValue (10 * k + (b - 48)) ds n) → HasValue k (b ∷ ds) n
value_by k b ds n true e h ih =
    let r = ih (rw e at h) in
    let bounds = digit_bounds b e in
    let same = digit_value_digit b bounds in
    let at : k * 10 + digit_value b ≡ 10 * k + (b - 48) = omega (arith, same, bounds.0, bounds.1) in
    record { digits = (omega (arith, same, bounds.0, bounds.1), r.digits); value = ap (λ m. digits_value_after 10 m ds) at ∙ r.value }
value_by k b ds n false e h ih = absurd (cc (rw e at h))

value_of : (k : ℕ) (ds : List ℕ) (n : ℕ) → number_after k ds ≡ Some n → HasValue k ds n
value_of k [] n h = record { digits = tt; value = cc }
value_of k (b ∷ ds) n h = value_by k b ds n (is_digit b) refl h (value_of (10 * k + (b - 48)) ds n)

-- a number of 1 to 19 digits
record IsNumber (ds : List ℕ) (n : ℕ) : Type 0 where
  pub has : HasValue 0 ds n
  pub some : 1 ≤ length ds
  pub small : n < 2 ^ 64

number_by : (ds : List ℕ) (n : ℕ) (t : Bool) → (nat_le 1 (length ds) && nat_le (length ds) 19) ≡ t → digits_of ds ≡ Some n → IsNumber ds n
number_by ds n true e h =
    let parts = and_parts (nat_le 1 (length ds)) (nat_le (length ds) 19) e in
    let has = value_of 0 ds n (rw e at h) in
    let few : length ds ≤ 19 = grind (arith, nat_tests, parts.1) in
    let below : digits_value_after 10 0 ds < 10 ^ length ds = digits_value-lt 10 ds has.digits in
    let fits : 10 ^ length ds ≤ 10 ^ 19 = pow-le-pow_right (lit< tt) few in
    record { has = has; some = grind (arith, nat_tests, parts.0); small = omega (arith, below, has.value, fits) }
number_by ds n false e h = absurd (cc (rw e at h))

number_is : (ds : List ℕ) (n : ℕ) → digits_of ds ≡ Some n → IsNumber ds n
number_is ds n h = number_by ds n (nat_le 1 (length ds) && nat_le (length ds) 19) refl h

-- its digits are the printed ones where no zero leads
abbrev pub leads_with_zero : List ℕ → Bool
leads_with_zero [] = false
leads_with_zero (a ∷ []) = false
leads_with_zero (a ∷ b ∷ bs) = nat_eq a 48

printed_unled : (ds : List ℕ) (n : ℕ) → IsNumber ds n → (get_or ds 0 0 ≡ 48 → length ds ≡ 1) → decimal n ≡ ds
printed_unled ds n h lead =
    let small : digits_value_after 10 0 ds < 2 ^ 64 = omega (arith, h.has.value, h.small) in
    ap decimal (sym h.has.value)
    ∙ decimal-digits_value (numerals_by_value _ tells_digits) ds h.has.digits (omega (arith, h.some)) lead small

unprinted_by : (a b : ℕ) (bs : List ℕ) (n : ℕ) → n < 2 ^ 64 → a ≡ 48 → decimal n ≢ a ∷ b ∷ bs
unprinted_by a b bs zero small zero_leads e =
    let k : length (a ∷ b ∷ bs) ≡ 1 = ap length (sym e ∙ decimal_digit 0 (omega arith)) in omega (arith, k)
unprinted_by a b bs (suc n) small zero_leads e =
    let first = first_decimal (suc n) (omega arith) small in
    let at : get_or (decimal (suc n)) 0 0 ≡ a = ap (λ l. get_or l 0 0) e in
    omega (arith, first, at, zero_leads)

digits_by : (a b : ℕ) (bs : List ℕ) (n : ℕ) (t : Bool) → nat_eq a 48 ≡ t → IsNumber (a ∷ b ∷ bs) n → bytes_eq (decimal n) (a ∷ b ∷ bs) ≡ not t
digits_by a b bs n true e h =
    let zero_leads : a ≡ 48 = grind (arith, nat_tests) in
    false_from_ne_true _ (λ same. unprinted_by a b bs n h.small zero_leads (same_word _ _ same))
digits_by a b bs n false e h =
    let other : a ≡ 48 → ⊥ = λ zero_leads. let t : nat_eq a 48 ≡ true = grind (arith, nat_tests) in absurd (cc (e, t)) in
    rw (printed_unled (a ∷ b ∷ bs) n h (λ k. absurd (other k))) (same_bytes (a ∷ b ∷ bs))

digits_printed : (ds : List ℕ) (n : ℕ) → IsNumber ds n → bytes_eq (decimal n) ds ≡ not (leads_with_zero ds)
digits_printed [] n h = absurd (let k = h.some in omega (arith, k))
digits_printed (a ∷ []) n h = rw (printed_unled (a ∷ []) n h (λ k. refl)) (same_bytes (a ∷ []))
digits_printed (a ∷ b ∷ bs) n h = digits_by a b bs n (nat_eq a 48) refl h

-- after a sign no zero leads, and a zero has no sign
signed_by : (b : ℕ) (bs : List ℕ) (n : ℕ) (t : Bool) → nat_eq b 48 ≡ t → IsNumber (b ∷ bs) (suc n) → bytes_eq (decimal (suc n)) (b ∷ bs) ≡ not t
signed_by b bs n true e h =
    let first = first_decimal (suc n) (omega arith) h.small in
    let lead : b ≡ 48 = grind (arith, nat_tests) in
    false_from_ne_true _ (λ same.
    let whole : decimal (suc n) ≡ b ∷ bs = same_word (decimal (suc n)) (b ∷ bs) same in
    let at : get_or (decimal (suc n)) 0 0 ≡ b = ap (λ (l : List ℕ). get_or l 0 0) whole in omega (arith, first, at, lead))
signed_by b bs n false e h =
    let other : b ≡ 48 → ⊥ = λ lead. let t : nat_eq b 48 ≡ true = grind (arith, nat_tests) in absurd (cc (e, t)) in
    rw (printed_unled (b ∷ bs) (suc n) h (λ k. absurd (other k))) (same_bytes (b ∷ bs))

zero_by : (b : ℕ) (bs : List ℕ) (t : Bool) → nat_eq b 48 ≡ t → IsNumber (b ∷ bs) 0 → not t ≡ false
zero_by b bs true e h = refl
zero_by b bs false e h =
    let other : b ≡ 48 → ⊥ = λ lead. let t : nat_eq b 48 ≡ true = grind (arith, nat_tests) in absurd (cc (e, t)) in
    let same = printed_unled (b ∷ bs) 0 h (λ k. absurd (other k)) in
    absurd (other (ap (λ l. get_or l 0 0) (sym same ∙ decimal_digit 0 (omega arith))))

negative_printed : (bs : List ℕ) (n : ℕ) → IsNumber bs n → bytes_eq (signed_decimal (neg_ℤ (pos n))) (45 ∷ bs) ≡ is_printed (45 ∷ bs)
negative_printed [] n h = absurd (let k = h.some in omega (arith, k))
negative_printed (b ∷ bs) zero h = rw (decimal_digit 0 (omega arith)) (sym (zero_by b bs (nat_eq b 48) refl h))
negative_printed (b ∷ bs) (suc n) h = signed_by b bs n (nat_eq b 48) refl h

plain_by : (a b : ℕ) (bs : List ℕ) (t : Bool) → nat_eq a 45 ≡ false → nat_eq a 48 ≡ t → is_printed (a ∷ b ∷ bs) ≡ not t
plain_by a b bs true e f = rw (e, f) refl
plain_by a b bs false e f = rw (e, f) refl

plain_printed : (a : ℕ) (bs : List ℕ) → nat_eq a 45 ≡ false → not (leads_with_zero (a ∷ bs)) ≡ is_printed (a ∷ bs)
plain_printed a [] e = refl
plain_printed a (b ∷ bs) e = sym (plain_by a b bs (nat_eq a 48) e refl)

printed_by : (a : ℕ) (bs : List ℕ) (z : ℤ) (t : Bool) → nat_eq a 45 ≡ t → number_of (a ∷ bs) ≡ Some z
    → bytes_eq (signed_decimal z) (a ∷ bs) ≡ is_printed (a ∷ bs)
printed_by a bs z true e h =
    let sign : a ≡ 45 = grind (arith, nat_tests) in
    mapped (λ n. neg_ℤ (pos n)) (digits_of bs) z (rw e at h) (λ n some same.
    rw (← same) (subst (λ (x : ℕ). bytes_eq (signed_decimal (neg_ℤ (pos n))) (x ∷ bs) ≡ is_printed (x ∷ bs)) (sym sign)
    (negative_printed bs n (number_is bs n some))))
printed_by a bs z false e h =
    mapped pos (digits_of (a ∷ bs)) z (rw e at h) (λ n some same.
    rw (← same) (digits_printed (a ∷ bs) n (number_is (a ∷ bs) n some) ∙ plain_printed a bs e))

pub printed : (word : List ℕ) (z : ℤ) → number_of word ≡ Some z → bytes_eq (signed_decimal z) word ≡ is_printed word
printed [] z h = absurd (cc h)
printed (a ∷ bs) z h = printed_by a bs z (nat_eq a 45) refl h
