-- An owner is read from a word exactly where the word spells it.
use Rattle.std.proofs.Common.{◌≡◌, ℕ, ◌/◌, ◌%◌, ◌==◌, ◌&&◌, nat_lt, Option, Some, IfSome, arith, eqb-true, refl}
use Rattle.std.proofs.lemmas.Bool.{cond_both}
use Rattle.std.proofs.lemmas.Bool.Decides.{nat_tests}
use Rattle.std.proofs.lemmas.Option.{MatchOption-at_some}
use Rattle.std.specs.Bool.{⊤}
use Rattle.mark_word.specs.Record.{is_record_word}
use Rattle.mark_word.specs.declared.owner.OwnerForm.{OwnerForm}
use Rattle.mark_word.specs.declared.owner.OwnerForm.TheVariants.{Free, ByThread, ByRecord}
use Rattle.mark_word.specs.Owner.{IsOwnerInRange, owner_of, SpellsOwner, read_owner}
use Rattle.mark_word.proofs.ReadingRecords.{record_told}

-- an owner in range is read back from its word
pub read_owner-owner_of : (f : OwnerForm) → IsOwnerInRange f → read_owner (owner_of f) ≡ Some f
unfolding read_owner
read_owner-owner_of Free h = refl
read_owner-owner_of (ByThread thread) h = grind (arith, nat_tests)
read_owner-owner_of (ByRecord thread place) h = grind (arith, nat_tests)

-- the word spells what is read from it, if anything
abbrev IsSpelled : ℕ → Option OwnerForm → Type 0
IsSpelled word o = IfSome o (λ f. SpellsOwner f word)

-- a word spells what is read from it, test by test
is_spelled : (word : ℕ) → IsSpelled word (read_owner word)
unfolding read_owner
is_spelled word =
    cond_both (word == 0) _ _ (IsSpelled word) (λ h. (tt, eqb-true word 0 h)) (λ _.
    cond_both (is_record_word word) _ _ (IsSpelled word) (record_told word) (λ _.
    cond_both ((word % 8 == 1) && nat_lt 0 (word / 8) && nat_lt (word / 8) 33) _ _ (IsSpelled word)
    (λ h. grind (arith, nat_tests)) (λ _. tt)))

-- a word spells the owner that is read from it
pub read_owner-spells : (word : ℕ) (f : OwnerForm) → read_owner word ≡ Some f → SpellsOwner f word
read_owner-spells word f e = MatchOption-at_some ⊤ (λ form. SpellsOwner form word) f e (is_spelled word)
