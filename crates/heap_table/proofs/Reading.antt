-- A word is read as it is decoded.
use Rattle.std.proofs.Common.{◌≡◌, ℕ, Option, Some, None, Result, Ok, Err, IfOk, OnErr, refl, sym, ap, ◌∙◌}
use Rattle.std.specs.Result.{result_ok}
use Rattle.mark_word.specs.declared.bad_mark.BadMark.{BadMark}
use Rattle.mark_word.specs.declared.mark.MarkForm.{MarkForm}
use Rattle.mark_word.specs.declared.safe.SafeForm.{SafeForm}
use Rattle.mark_word.specs.Mark.{SpellsMark, read_mark}
use Rattle.mark_word.specs.Safe.{SpellsSafe, read_safe}
use Rattle.mark_word.specs.declared.owner.OwnerForm.{OwnerForm}
use Rattle.mark_word.specs.Owner.{SpellsOwner, read_owner}
use Rattle.mark_word.specs.declared.wait.WaitForm.{WaitForm}
use Rattle.mark_word.specs.Wait.{SpellsWait, read_wait}
use Rattle.mark_word.proofs.ReadingOwners.{read_owner-owner_of, read_owner-spells}
use Rattle.mark_word.proofs.ReadingWaits.{read_wait-wait_of, read_wait-spells}
use Rattle.mark_word.proofs.ReadingMarks.{read_mark-mark_of, read_mark-spells}
use Rattle.mark_word.proofs.ReadingSafepoints.{read_safe-safe_of, read_safe-spells}
use Rattle.mark_word.specs.declared.hold.HoldForm.{HoldForm}
use Rattle.mark_word.specs.Hold.{SpellsHold, read_hold}
use Rattle.mark_word.proofs.ReadingHolds.{read_hold-hold_of, read_hold-spells}
use Rattle.plain_monitor.specs.declared.entry.Value.{Value}
use Rattle.plain_monitor.specs.declared.refusal.BadWord.{BadWord}
use Rattle.plain_monitor.specs.ValueWords.{SpellsValue, read_value}
use Rattle.plain_monitor.proofs.ValuesRead.{read_value-word_of, read_value-spells, word_of-only}

none_of : {A : Type 0} (r : Option A) → ((a : A) → r ≡ Some a → ⊥) → None ≡ r
none_of None h = refl
none_of (Some a) h = absurd (h a refl)

read_ok : {A E : Type 0} (read : Option A) (Spells : A → Type 0) (r : Result A E) → ((a : A) → Spells a → read ≡ Some a) → ((a : A) → read ≡ Some a → Spells a)
    → IfOk r Spells → OnErr r ((a : A) → Spells a → ⊥) → result_ok r ≡ read
read_ok read Spells (Ok a) to back found none = sym (to a found)
read_ok read Spells (Err e) to back found none = none_of read (λ a e. none a (back a e))

pub mark_read : (word : ℕ) (r : Result MarkForm BadMark) → IfOk r (λ f. SpellsMark f word)
    → OnErr r ((f : MarkForm) → SpellsMark f word → ⊥) → result_ok r ≡ read_mark word
mark_read word r = read_ok (read_mark word) (λ f. SpellsMark f word) r (λ f h. ap read_mark h.1 ∙ read_mark-mark_of f h.0) (λ f e. read_mark-spells word f e)

pub safe_read : (word : ℕ) (r : Result SafeForm BadMark) → IfOk r (λ f. SpellsSafe f word)
    → OnErr r ((f : SafeForm) → SpellsSafe f word → ⊥) → result_ok r ≡ read_safe word
safe_read word r = read_ok (read_safe word) (λ f. SpellsSafe f word) r (λ f h. ap read_safe h.1 ∙ read_safe-safe_of f h.0) (λ f e. read_safe-spells word f e)

pub value_read_as : (word : ℕ) (r : Result Value BadWord) → IfOk r (λ v. SpellsValue v word)
    → OnErr r ((v : Value) → SpellsValue v word → ⊥) → result_ok r ≡ read_value word
value_read_as word r = read_ok (read_value word) (λ v. SpellsValue v word) r
    (λ v h. ap read_value (word_of-only v word h) ∙ read_value-word_of v h.0) (λ v e. read_value-spells word v e)

pub owner_read : (word : ℕ) (r : Result OwnerForm BadMark) → IfOk r (λ f. SpellsOwner f word)
    → OnErr r ((f : OwnerForm) → SpellsOwner f word → ⊥) → result_ok r ≡ read_owner word
owner_read word r = read_ok (read_owner word) (λ f. SpellsOwner f word) r
    (λ f h. ap read_owner h.1 ∙ read_owner-owner_of f h.0) (λ f e. read_owner-spells word f e)

pub wait_read : (word : ℕ) (r : Result WaitForm BadMark) → IfOk r (λ f. SpellsWait f word)
    → OnErr r ((f : WaitForm) → SpellsWait f word → ⊥) → result_ok r ≡ read_wait word
wait_read word r = read_ok (read_wait word) (λ f. SpellsWait f word) r (λ f h. ap read_wait h.1 ∙ read_wait-wait_of f h.0) (λ f e. read_wait-spells word f e)

pub hold_read : (word : ℕ) (r : Result HoldForm BadMark) → IfOk r (λ f. SpellsHold f word)
    → OnErr r ((f : HoldForm) → SpellsHold f word → ⊥) → result_ok r ≡ read_hold word
hold_read word r = read_ok (read_hold word) (λ f. SpellsHold f word) r (λ f h. ap read_hold h.1 ∙ read_hold-hold_of f h.0) (λ f e. read_hold-spells word f e)
