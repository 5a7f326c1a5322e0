-- Numbers that the standard library refuses.
use Rattle.std.proofs.Common.{◌≡◌, ℕ, ◌<◌, ◌≤◌, ◌^◌, true, List, length, arith, rules, None}
use Rattle.std.specs.Prelude.{Result, Ok, Err, nat_le, ◌&&◌}
use Rattle.clap.proofs.WalkLemmas.{both}
use Rattle.std.proofs.Common.{leb-true}
use Rattle.std.specs.Result.{result_ok}
use Rattle.std.specs.Char.{is_ascii_digit}
use Rattle.std.specs.List.{list_all}
use Rattle.std.specs.Str.Parse.{ParsesUnsigned, digits_value}
use Rattle.std.proofs.lemmas.Str.Parse.{IsNumeralModel, numerals_by_value, parse_digits}
use Rattle.std.proofs.lemmas.Bool.Decides.{nat_tests}
use Rattle.cli_args.specs.Number.{number, is_number, within}

own : IsNumeralModel (λ ds. list_all is_ascii_digit ds ≡ true) (digits_value 10)
own = numerals_by_value _ (search rules)

above : (least most value : ℕ) → (value ≤ most → ⊥) → None ≡ within least most value
above least most value h = grind (arith, nat_tests)

pub number_too_great : {E : Type 0} (bs : List ℕ) (r : Result ℕ E) (least most : ℕ) → ParsesUnsigned 32 10 bs r → result_ok r ≡ None
    → is_number bs ≡ true → most < 2 ^ 32 → None ≡ number least most bs
number_too_great bs (Ok n) least most h e d m = absurd (cc e)
number_too_great bs (Err x) least most h e d m =
    let outer = both (nat_le 1 (length bs) && nat_le (length bs) 10) (list_all is_ascii_digit bs) d in
    let inner = both (nat_le 1 (length bs)) (nat_le (length bs) 10) outer.0 in
    let some : 1 ≤ length bs = leb-true 1 (length bs) inner.0 in
    let refused = parse_digits own 32 bs (Err x) h outer.1 in
    rw d (above least most (digits_value 10 bs) (λ fits. refused (some, omega arith)))
