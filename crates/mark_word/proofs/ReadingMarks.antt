-- A mark is read from a word exactly where the word spells it.
use Rattle.std.proofs.Common.{◌≡◌, ℕ, ◌+◌, ◌/◌, ◌%◌, ◌^◌, ◌==◌, ◌&&◌, ◌-◌, nat_lt, true, if◌then◌else◌, Option, Some, IfSome, arith, eqb-true, refl}
use Rattle.std.proofs.lemmas.Bool.{cond_both}
use Rattle.std.proofs.lemmas.Bool.Decides.{nat_tests}
use Rattle.std.proofs.lemmas.Option.{MatchOption-at_some}
use Rattle.std.specs.Bool.{⊤}
use Rattle.mark_word.specs.Record.{is_record_word}
use Rattle.mark_word.specs.declared.mark.MarkForm.{MarkForm}
use Rattle.mark_word.specs.declared.mark.MarkForm.TheVariants.{Inflating, Marked}
use Rattle.mark_word.specs.Mark.{IsMarkInRange, mark_of, SpellsMark, read_neutral, read_inflated, biased_in, read_biased, read_mark}
use Rattle.mark_word.proofs.ReadingRecords.{record_told}

-- a mark in range is read back from its word
pub read_mark-mark_of : (f : MarkForm) → IsMarkInRange f → read_mark (mark_of f) ≡ Some f
unfolding read_mark
read_mark-mark_of Inflating h = refl
read_mark-mark_of Marked h = refl
read_mark-mark_of _ h = grind (arith, nat_tests)

-- the word spells what is read from it, if anything
abbrev IsSpelled : ℕ → Option MarkForm → Type 0
IsSpelled word o = IfSome o (λ f. SpellsMark f word)

-- so it is with a word with the low bits 001
neutral_spelled : (word : ℕ) → (word % 8 == 1) ≡ true → IsSpelled word (read_neutral word)
neutral_spelled word low = cond_both (nat_lt (word / 8 % 32) 16 && nat_lt (word / 256) (2 ^ 31)) _ _ (IsSpelled word) (λ h. grind (arith, nat_tests)) (λ _. tt)

-- with one with the low bits 010
inflated_spelled : (word : ℕ) → (word % 8 == 2) ≡ true → IsSpelled word (read_inflated word)
inflated_spelled word low = cond_both (nat_lt 0 (word / 8) && nat_lt (word / 8) (2 ^ 20 + 1)) _ _ (IsSpelled word) (λ h. grind (arith, nat_tests)) (λ _. tt)

-- and with one with the low bits 101, by whether there is a thread
biased_in_spelled : (word : ℕ) → (word % 8 == 5) ≡ true → (nat_lt (word / 8 % 32) 16 && nat_lt (word / 1024) 33) ≡ true → SpellsMark (biased_in word) word
biased_in_spelled word low h = cond_both (word / 1024 == 0) _ _ (λ f. SpellsMark f word) (λ none. grind (arith, nat_tests)) (λ some. grind (arith, nat_tests))

biased_spelled : (word : ℕ) → (word % 8 == 5) ≡ true → IsSpelled word (read_biased word)
biased_spelled word low = cond_both (nat_lt (word / 8 % 32) 16 && nat_lt (word / 1024) 33) _ _ (IsSpelled word) (biased_in_spelled word low) (λ _. tt)

-- a word spells what is read from it, test by test
is_spelled : (word : ℕ) → IsSpelled word (read_mark word)
unfolding read_mark
is_spelled word =
    cond_both (word == 0) _ _ (IsSpelled word) (λ h. (tt, eqb-true word 0 h)) (λ _.
    cond_both (word == 3) _ _ (IsSpelled word) (λ h. (tt, eqb-true word 3 h)) (λ _.
    cond_both (is_record_word word) _ _ (IsSpelled word) (record_told word) (λ _.
    cond_both (word % 8 == 1) _ _ (IsSpelled word) (neutral_spelled word) (λ _.
    cond_both (word % 8 == 2) _ _ (IsSpelled word) (inflated_spelled word) (λ _.
    cond_both (word % 8 == 5) _ _ (IsSpelled word) (biased_spelled word) (λ _. tt))))))

-- a word spells the mark that is read from it
pub read_mark-spells : (word : ℕ) (f : MarkForm) → read_mark word ≡ Some f → SpellsMark f word
read_mark-spells word f e = MatchOption-at_some ⊤ (λ form. SpellsMark form word) f e (is_spelled word)
