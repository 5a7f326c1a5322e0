-- A wait is read from a word exactly where the word spells it.
use Rattle.std.proofs.Common.{◌≡◌, ℕ, ◌/◌, ◌%◌, ◌^◌, ◌==◌, ◌&&◌, nat_lt, Option, Some, IfSome, arith, eqb-true, refl}
use Rattle.std.proofs.lemmas.Bool.{cond_both}
use Rattle.std.proofs.lemmas.Bool.Decides.{nat_tests}
use Rattle.std.proofs.lemmas.Option.{MatchOption-at_some}
use Rattle.std.specs.Bool.{⊤}
use Rattle.mark_word.specs.declared.wait.WaitForm.{WaitForm}
use Rattle.mark_word.specs.declared.wait.WaitForm.TheVariants.{Ready, Ended}
use Rattle.mark_word.specs.Wait.{IsWaitInRange, wait_of, SpellsWait, read_wait}

-- a wait in range is read back from its word
pub read_wait-wait_of : (f : WaitForm) → IsWaitInRange f → read_wait (wait_of f) ≡ Some f
unfolding read_wait
read_wait-wait_of Ready h = refl
read_wait-wait_of Ended h = refl
read_wait-wait_of _ h = grind (arith, nat_tests)

-- the word spells what is read from it, if anything
abbrev IsSpelled : ℕ → Option WaitForm → Type 0
IsSpelled word o = IfSome o (λ f. SpellsWait f word)

-- a word spells what is read from it, test by test
is_spelled : (word : ℕ) → IsSpelled word (read_wait word)
unfolding read_wait
is_spelled word =
    cond_both (word == 0) _ _ (IsSpelled word) (λ h. (tt, eqb-true word 0 h)) (λ _.
    cond_both (word == 4) _ _ (IsSpelled word) (λ h. (tt, eqb-true word 4 h)) (λ _.
    cond_both ((word % 8 == 1) && nat_lt (word / 8) (2 ^ 15)) _ _ (IsSpelled word) (λ h. grind (arith, nat_tests)) (λ _.
    cond_both ((word % 8 == 2) && nat_lt (word / 2 ^ 18) (2 ^ 46)) _ _ (IsSpelled word) (λ h. grind (arith, nat_tests)) (λ _.
    cond_both ((word % 8 == 3) && nat_lt (word / 8) (2 ^ 15)) _ _ (IsSpelled word) (λ h. grind (arith, nat_tests)) (λ _. tt)))))

-- a word spells the wait that is read from it
pub read_wait-spells : (word : ℕ) (f : WaitForm) → read_wait word ≡ Some f → SpellsWait f word
read_wait-spells word f e = MatchOption-at_some ⊤ (λ form. SpellsWait form word) f e (is_spelled word)
