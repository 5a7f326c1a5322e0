-- The lines of classes, one after another.
use Rattle.std.proofs.Common.{◌≡◌, ℕ, zero, suc, ◌+◌, ◌<◌, List, [], ◌∷◌, ◌++◌, length, Some, refl, sym, ap, ◌∙◌, add-one, arith, inl, inr}
use Rattle.std.specs.Prelude.{◌⊎◌, slice_get}
use Rattle.std.proofs.lemmas.Option.{none-some, same_Some}
use Rattle.heap_table.specs.Seen.{ClosedSeen}
use Rattle.lock_journal.specs.declared.record.ClassLine.{ClassLine}
use Rattle.program_run.specs.Lines.{line_of, lines_below}

pub lines_many : (c : ClosedSeen) (n : ℕ) → length (lines_below c n) ≡ n
lines_many c zero = refl
lines_many c (suc n) = pushed_many (lines_below c n) (line_of c n) ∙ ap suc (lines_many c n)
  where
    pushed_many : {A : Type 0} (xs : List A) (x : A) → length (xs ++ x ∷ []) ≡ suc (length xs)
    pushed_many [] x = refl
    pushed_many (y ∷ xs) x = ap suc (pushed_many xs x)

-- the lines of one class more
pub line_more : (c : ClosedSeen) (n : ℕ) (before after : List ClassLine) (line : ClassLine) → before ≡ lines_below c n → after ≡ before ++ line ∷ []
    → line ≡ line_of c n → after ≡ lines_below c (n + 1)
line_more c n before after line are pushed is = pushed ∙ (λ i. are i ++ is i ∷ []) ∙ sym (ap (lines_below c) (add-one n))

-- what stands in a list and one more
pushed_at : {A : Type 0} (xs : List A) (x y : A) (k : ℕ) → slice_get (xs ++ x ∷ []) k ≡ Some y
    → (slice_get xs k ≡ Some y) ⊎ ((k ≡ length xs) × (x ≡ y))
pushed_at [] x y zero e = inr (refl, same_Some x y e)
pushed_at [] x y (suc k) e = absurd (none-some y e)
pushed_at (z ∷ xs) x y zero e = inl e
pushed_at (z ∷ xs) x y (suc k) e = elim (pushed_at xs x y k e) [
  | inl here ↦ inl here
  | inr last ↦ inr (ap suc last.0, last.1)
]

-- the line at a place is that of the class with this number
pub line_at : (c : ClosedSeen) (n k : ℕ) (line : ClassLine) → slice_get (lines_below c n) k ≡ Some line → (k < n) × (line_of c k ≡ line)
line_at c zero k line e = absurd (none-some line e)
line_at c (suc n) k line e = elim (pushed_at (lines_below c n) (line_of c n) line k e) [
  | inl before ↦ let at = line_at c n k line before in let less = at.0 in (omega (arith, less), at.1)
  | inr last ↦
      let same : k ≡ n = last.0 ∙ lines_many c n in
      (omega (arith, same), ap (line_of c) same ∙ last.1)
]
