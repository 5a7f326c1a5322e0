-- The threads that wait on an object, by a list of waiting words: how many there are, and when there is none.
use Rattle.std.proofs.Common.{◌≡◌, ℕ, ◌+◌, ◌≤◌, ◌&&◌, not, cond, is_none, count_by, Bool, true, false, List, [], ◌∷◌, length, refl, ap, ◌∙◌, arith}
use Rattle.std.specs.List.{list_all}
use Rattle.std.proofs.lemmas.List.Sums.{sum_by-cons, count_by-le-length}
use Rattle.core_world.specs.Words.Forms.{waits_on, stamp_in}
use Rattle.core_world.specs.Trees.WaitSteps.{waiters, is_older, insert_waiter, by_age}
use Rattle.core_calls.specs.Woken.{oldest}

-- sorting keeps the number
one_more : (p : ℕ × ℕ) (qs : List (ℕ × ℕ)) → length (insert_waiter p qs) ≡ length qs + 1
one_more p [] = omega arith
one_more p (q ∷ qs) = cases (is_older p q) (one_more p qs)
  where
    cases : (b : Bool) → length (insert_waiter p qs) ≡ length qs + 1 → length (cond b (p ∷ q ∷ qs) (q ∷ insert_waiter p qs)) ≡ length (q ∷ qs) + 1
    cases true more = omega arith
    cases false more = omega (arith, more)

pub as_many : (ps : List (ℕ × ℕ)) → length (by_age ps) ≡ length ps
as_many [] = refl
as_many (p ∷ ps) = omega (arith, as_many ps, one_more p (by_age ps))

-- There is none exactly where no word says that its thread waits.
abbrev is_empty : List (ℕ × ℕ) → Bool
is_empty [] = true
is_empty (p ∷ ps) = false

none_first : (ps : List (ℕ × ℕ)) → is_none (oldest (by_age ps)) ≡ is_empty ps
none_first [] = refl
none_first (p ∷ ps) = inserted (by_age ps)
  where
    inserted : (qs : List (ℕ × ℕ)) → is_none (oldest (insert_waiter p qs)) ≡ false
    inserted [] = refl
    inserted (q ∷ qs) = cases (is_older p q)
      where
        cases : (b : Bool) → is_none (oldest (cond b (p ∷ q ∷ qs) (q ∷ insert_waiter p qs))) ≡ false
        cases true = refl
        cases false = refl

nobody : (o t : ℕ) (words : List ℕ) → is_empty (waiters o t words) ≡ list_all (λ word. not (waits_on word o)) words
nobody o t [] = refl
nobody o t (w ∷ ws) = cases (waits_on w o) (nobody o (t + 1) ws)
  where
    cases : (b : Bool) → is_empty (waiters o (t + 1) ws) ≡ list_all (λ word. not (waits_on word o)) ws
        → is_empty (cond b ((t, stamp_in w) ∷ waiters o (t + 1) ws) (waiters o (t + 1) ws)) ≡ not b && list_all (λ word. not (waits_on word o)) ws
    cases true h = refl
    cases false h = h

pub none_woken : (o : ℕ) (words : List ℕ) → is_none (oldest (by_age (waiters o 0 words))) ≡ list_all (λ word. not (waits_on word o)) words
none_woken o words = none_first (waiters o 0 words) ∙ nobody o 0 words

-- There are as many as words that say so, and so no more than words.
pub all_woken : (o t : ℕ) (words : List ℕ) → length (waiters o t words) ≡ count_by (λ word. waits_on word o) words
all_woken o t [] = refl
all_woken o t (w ∷ ws) = cases (waits_on w o) refl (all_woken o (t + 1) ws)
  where
    counted : (b : Bool) → waits_on w o ≡ b → count_by (λ word. waits_on word o) (w ∷ ws) ≡ cond b 1 0 + count_by (λ word. waits_on word o) ws
    counted b so = sum_by-cons (λ word. cond (waits_on word o) 1 0) w ws ∙ ap (λ (b : Bool). cond b 1 0 + count_by (λ word. waits_on word o) ws) so

    cases : (b : Bool) → waits_on w o ≡ b → length (waiters o (t + 1) ws) ≡ count_by (λ word. waits_on word o) ws
        → length (cond b ((t, stamp_in w) ∷ waiters o (t + 1) ws) (waiters o (t + 1) ws)) ≡ count_by (λ word. waits_on word o) (w ∷ ws)
    cases true so h = omega (arith, counted true so, h)
    cases false so h = omega (arith, counted false so, h)

pub few_waiters : (o t : ℕ) (words : List ℕ) → length (waiters o t words) ≤ length words
few_waiters o t words = omega (arith, all_woken o t words, count_by-le-length (λ word. waits_on word o) words)
