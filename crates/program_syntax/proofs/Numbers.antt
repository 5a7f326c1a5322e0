-- Numbers by their digits, their sign and their size.
use Rattle.std.proofs.Common.{◌≡◌, ℕ, ◌+◌, ◌-◌, ◌*◌, ◌^◌, ◌<◌, ◌≤◌, true, if◌then◌else◌, List, length, get_or, drop, refl, arith, lit<, None}
use Rattle.std.proofs.Math.Numerals.{add-one}
use Rattle.std.proofs.Math.Seq.{drop-cons}
use Rattle.std.proofs.Math.Nat.{pow-le-pow_right, pow-succ'}
use Rattle.std.proofs.lemmas.Bool.Decides.{nat_tests}
use Rattle.object_program.specs.Name.{is_digit}
use Rattle.program_syntax.specs.Number.{number_after}

pub digit_step : (n : ℕ) (bs : List ℕ) (i : ℕ) → i < length bs
    → number_after n (drop i bs) ≡ (if is_digit (get_or bs i 0) then number_after (10 * n + (get_or bs i 0 - 48)) (drop (i + 1) bs) else None)
digit_step n bs i h = rw (add-one, drop-cons bs i 0) refl

pub digit_bounds : (b : ℕ) → is_digit b ≡ true → (48 ≤ b) × (b ≤ 57)
digit_bounds b h = (grind (arith, nat_tests), grind (arith, nat_tests))

-- a number of i digits, one more of which makes 19 at most
pub digits_fit : (n i d : ℕ) → n < 10 ^ i → i ≤ 18 → d < 10 → 10 * n + d < 10000000000000000000
digits_fit n i d h k l = let p : 10 ^ i ≤ 10 ^ 18 = pow-le-pow_right (lit< tt) k in omega arith

pub more_digits : (n i d : ℕ) → n < 10 ^ i → d < 10 → 10 * n + d < 10 ^ (i + 1)
more_digits n i d h l = rw (add-one, pow-succ' 10 i) (omega arith)
