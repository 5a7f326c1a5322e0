-- A mark has the bias pattern by its bits exactly where it is read as a bias.
use Rattle.std.proofs.Common.{◌≡◌, ℕ, ◌+◌, ◌/◌, ◌%◌, ◌^◌, ◌==◌, ◌&&◌, Bool, nat_lt, Option, Some, arith}
use Rattle.std.proofs.lemmas.Bool.{cond_both}
use Rattle.std.proofs.lemmas.Bool.Decides.{nat_tests}
use Rattle.mark_word.specs.Mark.{read_mark}
use Rattle.mark_word.specs.Record.{is_record_word}
use Rattle.mark_word.specs.declared.mark.MarkForm.{MarkForm}
use Rattle.core_world.specs.Words.Forms.{is_biased, is_biased_form}

abbrev pub has_pattern_bits : ℕ → Bool
has_pattern_bits w = ((w % 8 == 5) && nat_lt (w / 8 % 32) 16) && nat_lt (w / 1024) 33

abbrev AreSame : ℕ → Option MarkForm → Type 0
AreSame w f = has_pattern_bits w ≡ is_biased_form f

pub bias_by_bits : (w : ℕ) → has_pattern_bits w ≡ is_biased w
unfolding read_mark
bias_by_bits w =
    cond_both (w == 0) _ _ (AreSame w) (λ h. grind (arith, nat_tests)) (λ _.
    cond_both (w == 3) _ _ (AreSame w) (λ h. grind (arith, nat_tests)) (λ _.
    cond_both (is_record_word w) _ _ (AreSame w) (λ h. grind (arith, nat_tests)) (λ _.
    cond_both (w % 8 == 1) _ _ (AreSame w) (λ h.
    cond_both (nat_lt (w / 8 % 32) 16 && nat_lt (w / 256) (2 ^ 31)) _ _ (AreSame w) (λ g. grind (arith, nat_tests)) (λ g. grind (arith, nat_tests))) (λ _.
    cond_both (w % 8 == 2) _ _ (AreSame w) (λ h.
    cond_both (nat_lt 0 (w / 8) && nat_lt (w / 8) (2 ^ 20 + 1)) _ _ (AreSame w) (λ g. grind (arith, nat_tests)) (λ g. grind (arith, nat_tests))) (λ _.
    cond_both (w % 8 == 5) _ _ (AreSame w) (λ h.
    cond_both (nat_lt (w / 8 % 32) 16 && nat_lt (w / 1024) 33) _ _ (AreSame w) (λ t.
    cond_both (w / 1024 == 0) _ _ (λ f. AreSame w (Some f)) (λ g. grind (arith, nat_tests)) (λ g. grind (arith, nat_tests)))
    (λ g. grind (arith, nat_tests))) (λ g. grind (arith, nat_tests)))))))
