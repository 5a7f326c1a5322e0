-- The hold words that aren't empty are as many as those of all objects together.
use Rattle.std.proofs.Common.{◌≡◌, ℕ, zero, suc, ◌+◌, ◌<◌, ◌≤◌, ◌==◌, ◌&&◌, not, eq-eqb, ne_eqb, Bool, true, false, cond}
use Rattle.std.proofs.Common.{List, [], ◌∷◌, length, slice_index, Option, Some, None, refl, sym, ap, ◌∙◌, arith, inl, inr}
use Rattle.std.specs.List.{sum, list_all, position_or_len}
use Rattle.std.proofs.lemmas.Bool.{cases_eq}
use Rattle.std.proofs.lemmas.List.Sums.{sum_by-cons}
use Rattle.mark_word.specs.declared.hold.HoldForm.{HoldForm}
use Rattle.mark_word.specs.declared.hold.HoldForm.TheVariants.{Empty, Holds}
use Rattle.mark_word.specs.Hold.{read_hold}
use Rattle.mark_word.proofs.ReadingHolds.{read_hold-spells}
use Rattle.core_world.specs.Clauses.WordForms.{IsHold}
use Rattle.core_world.specs.Locks.{count_where, hold_count}
use Rattle.core_world.specs.Threads.Stages.{one_if}
use Rattle.core_world.specs.Words.Forms.{names, names_form}
use Rattle.core_world.specs.Words.Shape.{Shape}
use Rattle.core_world.proofs.Readings.{hold_some}
use Rattle.core_law.specs.CountsAndVerdicts.{sum_below}

-- SUMS
sum_same : (n : ℕ) (f g : ℕ → ℕ) → ((i : ℕ) → i < n → f i ≡ g i) → sum_below n f ≡ sum_below n g
sum_same zero f g h = refl
sum_same (suc n) f g h =
    let a = sum_same n f g (λ i l. h i (omega (arith, l))) in
    let b = h n (omega arith) in
    omega (arith, a, b)

sum_none : (n : ℕ) → sum_below n (λ i. 0) ≡ 0
sum_none zero = refl
sum_none (suc n) = let a = sum_none n in omega (arith, a)

sum_both : (n : ℕ) (f g : ℕ → ℕ) → sum_below n (λ i. f i + g i) ≡ sum_below n f + sum_below n g
sum_both zero f g = refl
sum_both (suc n) f g = let a = sum_both n f g in omega (arith, a)

sum_front : (n : ℕ) (f : ℕ → ℕ) → sum_below (suc n) f ≡ f 0 + sum_below n (λ i. f (suc i))
sum_front zero f = omega arith
sum_front (suc n) f = let a = sum_front n f in omega (arith, a)

-- the sum of a list is that of its elements
sum_is : (xs : List ℕ) → sum xs ≡ sum_below (length xs) (λ i. slice_index xs i)
sum_is [] = refl
sum_is (x ∷ xs) =
    let a = sum_by-cons (λ y. y) x xs in
    let b = sum_is xs in
    let c = sum_front (length xs) (λ i. slice_index (x ∷ xs) i) in
    omega (arith, a, b, c)

-- none of the numbers below n is o where that isn't below n, and else one is
none_at : (n o : ℕ) → n ≤ o → sum_below n (λ i. one_if (o == i)) ≡ 0
none_at zero o h = refl
none_at (suc n) o h =
    let a = none_at n o (omega (arith, h)) in
    let b = ap one_if (ne_eqb o n (λ e. omega (arith, e, h))) in
    omega (arith, a, b)

one_at : (n o : ℕ) → o < n → sum_below n (λ i. one_if (o == i)) ≡ 1
one_at zero o h = absurd (omega (arith, h))
one_at (suc n) o h = elim (cases_eq o n) [
  | inl e ↦ let a = none_at n o (omega (arith, e)) in let b = ap one_if (eq-eqb o n e) in omega (arith, a, b)
  | inr d ↦ let a = one_at n o (omega (arith, d, h)) in let b = ap one_if (ne_eqb o n d) in omega (arith, a, b)
]

-- WORDS. A word that isn't empty names one object of the heap
one_word : (s : Shape) (h : ℕ) → IsHold s (read_hold h) → sum_below (length s.objects) (λ o. one_if (names o h)) ≡ one_if (not (h == 0))
one_word s h is = by_form (read_hold h) refl is
  where
    by_form : (f : Option HoldForm) → read_hold h ≡ f → IsHold s f
        → sum_below (length s.objects) (λ o. one_if (names_form f o)) ≡ one_if (not (h == 0))
    by_form None e i = absurd i
    by_form (Some Empty) e i =
        let zero_is : h ≡ 0 = (read_hold-spells h Empty e).1 in
        sum_none (length s.objects) ∙ sym (ap (λ b. one_if (not b)) (eq-eqb h 0 zero_is))
    by_form (Some (Holds o d)) e i =
        let word = (read_hold-spells h (Holds o d) e).1 in
        one_at (length s.objects) o i ∙ sym (ap (λ b. one_if (not b)) (ne_eqb h 0 (λ z. hold_some o d (sym word ∙ z))))

-- so of all words those that aren't empty are counted once
pub all_named : (s : Shape) (i : ℕ) (hs : List ℕ) → ((p : ℕ) → IsHold s (read_hold (slice_index hs p)))
    → count_where (λ p h. not (h == 0)) i hs ≡ sum_below (length s.objects) (λ o. count_where (λ p h. names o h) i hs)
all_named s i [] is = sym (sum_none (length s.objects))
all_named s i (h ∷ hs) is =
    let here = one_word s h (is 0) in
    let rest = all_named s (i + 1) hs (λ p. is (suc p)) in
    let both = sum_both (length s.objects) (λ o. one_if (names o h)) (λ o. count_where (λ p w. names o w) (i + 1) hs) in
    omega (arith, here, rest, both)

-- and the sum over a list of the holds of each object is their number
pub all_counted : (s : Shape) (hs holds : List ℕ) → ((p : ℕ) → IsHold s (read_hold (slice_index hs p))) → length holds ≡ length s.objects
    → ((o : ℕ) → o < length s.objects → slice_index holds o ≡ hold_count o hs) → count_where (λ p h. not (h == 0)) 0 hs ≡ sum holds
all_counted s hs holds is count each =
    all_named s 0 hs is
    ∙ sym (sum_is holds ∙ ap (λ n. sum_below n (λ i. slice_index holds i)) count
    ∙ sum_same (length s.objects) (λ i. slice_index holds i) (λ o. hold_count o hs) each)

-- FULL AND EMPTY. Where no place is free, no word is empty
pub none_free : (i : ℕ) (hs : List ℕ) → position_or_len (λ h. h == 0) hs ≡ length hs
    → count_where (λ p h. not (h == 0)) i hs ≡ length hs
none_free i [] e = refl
none_free i (h ∷ hs) e = cases (h == 0) (none_free (i + 1) hs) e
  where
    cases : (b : Bool) → (position_or_len (λ h. h == 0) hs ≡ length hs → count_where (λ p h. not (h == 0)) (i + 1) hs ≡ length hs)
        → cond (not b) (1 + position_or_len (λ h. h == 0) hs) 0 ≡ suc (length hs)
        → one_if (not b) + count_where (λ p h. not (h == 0)) (i + 1) hs ≡ suc (length hs)
    cases true ih g = absurd (omega (arith, g))
    cases false ih g = let a = ih (omega (arith, g)) in omega (arith, a)

-- and where no word counts, all are empty
pub all_empty : (i : ℕ) (hs : List ℕ) → count_where (λ p h. not (h == 0)) i hs ≡ 0 → list_all (λ h. h == 0) hs ≡ true
all_empty i [] e = refl
all_empty i (h ∷ hs) e = cases (h == 0) (all_empty (i + 1) hs) e
  where
    cases : (b : Bool) → (count_where (λ p h. not (h == 0)) (i + 1) hs ≡ 0 → list_all (λ h. h == 0) hs ≡ true)
        → one_if (not b) + count_where (λ p h. not (h == 0)) (i + 1) hs ≡ 0 → (b && list_all (λ h. h == 0) hs) ≡ true
    cases true ih g = ih (omega (arith, g))
    cases false ih g = absurd (omega (arith, g))
