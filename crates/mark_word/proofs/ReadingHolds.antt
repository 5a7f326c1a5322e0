-- A state of holds is read from a word exactly where the word spells it.
use Rattle.std.proofs.Common.{◌≡◌, ℕ, ◌+◌, ◌/◌, ◌%◌, ◌^◌, ◌==◌, ◌&&◌, nat_lt, Option, Some, IfSome, arith, eqb-true, refl}
use Rattle.std.proofs.lemmas.Bool.{cond_both}
use Rattle.std.proofs.lemmas.Bool.Decides.{nat_tests}
use Rattle.std.proofs.lemmas.Option.{MatchOption-at_some}
use Rattle.std.specs.Bool.{⊤}
use Rattle.mark_word.specs.declared.hold.HoldForm.{HoldForm}
use Rattle.mark_word.specs.declared.hold.HoldForm.TheVariants.{Empty, Holds}
use Rattle.mark_word.specs.Hold.{IsHoldInRange, hold_of, SpellsHold, read_hold}

-- a state of holds in range is read back from its word
pub read_hold-hold_of : (f : HoldForm) → IsHoldInRange f → read_hold (hold_of f) ≡ Some f
unfolding read_hold
read_hold-hold_of Empty h = refl
read_hold-hold_of (Holds object depth) h = grind (arith, nat_tests)

-- the word spells what is read from it, if anything
abbrev IsSpelled : ℕ → Option HoldForm → Type 0
IsSpelled word o = IfSome o (λ f. SpellsHold f word)

-- a word spells what is read from it, test by test
is_spelled : (word : ℕ) → IsSpelled word (read_hold word)
unfolding read_hold
is_spelled word =
    cond_both (word == 0) _ _ (IsSpelled word) (λ h. (tt, eqb-true word 0 h)) (λ _.
    cond_both (nat_lt 0 (word / 128) && nat_lt (word / 128) (2 ^ 15 + 1) && nat_lt 0 (word % 128) && nat_lt (word % 128) 65) _ _ (IsSpelled word)
    (λ h. grind (arith, nat_tests)) (λ _. tt))

-- a word spells the state of holds that is read from it
pub read_hold-spells : (word : ℕ) (f : HoldForm) → read_hold word ≡ Some f → SpellsHold f word
read_hold-spells word f e = MatchOption-at_some ⊤ (λ form. SpellsHold form word) f e (is_spelled word)
