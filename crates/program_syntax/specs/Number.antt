-- Numbers as texts write them.
use Rattle.std.specs.Prelude.{◌≡◌, ℕ, ℤ, pos, neg_ℤ, int_le, ◌+◌, ◌-◌, ◌*◌, Bool, true, false, ◌&&◌, ◌==◌, nat_le}
use Rattle.std.specs.Prelude.{if◌then◌else◌, List, [], ◌∷◌, length, Option, Some, None, option_map, MatchOption}
use Rattle.object_program.specs.Name.{is_digit}

-- the number whose digits are those of n and then these
abbrev pub number_after : ℕ → List ℕ → Option ℕ
number_after n [] = Some n
number_after n (b ∷ bs) = if is_digit b then number_after (10 * n + (b - 48)) bs else None

-- 1 to 19 digits; zeros may lead
abbrev pub digits_of : List ℕ → Option ℕ
digits_of bs = if nat_le 1 (length bs) && nat_le (length bs) 19 then number_after 0 bs else None

-- a minus sign may stand before the digits
abbrev pub number_of : List ℕ → Option ℤ
number_of [] = None
number_of (b ∷ bs) =
    if b == 45 then option_map (λ n. neg_ℤ (pos n)) (digits_of bs) else option_map pos (digits_of (b ∷ bs))

abbrev pub is_within : ℤ → ℤ → Option ℤ → Bool
is_within low high None = false
is_within low high (Some z) = int_le low z && int_le z high

-- the number from low to high that the word is, if it is one
abbrev pub IsNumberWithin : ℤ → ℤ → List ℕ → Option ℤ → Type 0
IsNumberWithin low high word found =
    MatchOption found (is_within low high (number_of word) ≡ false)
    (λ z. (is_within low high (number_of word) ≡ true) × (number_of word ≡ Some z))
