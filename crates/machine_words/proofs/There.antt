-- Which numbers aren't there.
use Rattle.std.proofs.Common.{◌≡◌, ℕ, zero, suc, ◌<◌, ◌≤◌, ◌||◌, nat_lt, cond, Bool, true, false, List}
use Rattle.std.proofs.Common.{[], ◌∷◌, length, slice_get, is_some, refl, sym, ap, ◌∙◌, arith}
use Rattle.std.proofs.lemmas.Bool.{true≢false}
use Rattle.std.proofs.lemmas.Bool.Decides.{nat_tests}
use Rattle.plain_monitor.specs.Made.{Numbering, first_made, maker_of, place_of, made_by, class_if_there, is_there}
use Rattle.machine_words.specs.inner.Reading.{after_row}

get_some : (xs : List ℕ) (k : ℕ) → is_some (slice_get xs k) ≡ nat_lt k (length xs)
get_some [] k = sym (grind (arith, nat_tests))
get_some (x ∷ xs) zero = sym (grind (arith, nat_tests))
get_some (x ∷ xs) (suc k) = get_some xs k ∙ grind (arith, nat_tests)

-- what has a class is there
pub there_has_class : (n : Numbering) (made : List (List ℕ)) (o : ℕ) → is_some (class_if_there n made o) ≡ is_there n made o
there_has_class n made o = by_test (nat_lt o (first_made n)) refl
  where
    by_test : (b : Bool) → nat_lt o (first_made n) ≡ b
        → is_some (cond b (slice_get n.declared o) (slice_get (made_by made (maker_of n o)) (place_of n o)))
        ≡ (b || nat_lt (place_of n o) (length (made_by made (maker_of n o))))
    by_test true e = get_some n.declared o ∙ e
    by_test false e = get_some (made_by made (maker_of n o)) (place_of n o)

none_of : (a b : Bool) → (a || b) ≡ false → (a ≡ false) × (b ≡ false)
none_of true b h = absurd (true≢false h)
none_of false b h = (refl, h)

-- what isn't there isn't declared
pub not_declared : (n : Numbering) (made : List (List ℕ)) (o : ℕ) → is_there n made o ≡ false → first_made n ≤ o
not_declared n made o h =
    let test = (none_of (nat_lt o (first_made n)) (nat_lt (place_of n o) (length (made_by made (maker_of n o)))) h).0 in
    grind (arith, nat_tests, test)

-- nor is what stands after it, up to the next thread's objects
pub row_ends : (n : Numbering) (made : List (List ℕ)) (o j : ℕ) → is_there n made o ≡ false → o ≤ j → j < after_row (first_made n) o
    → is_there n made j ≡ false
row_ends n made o j h le lt =
    let from = not_declared n made o h in
    let place = (none_of (nat_lt o (first_made n)) (nat_lt (place_of n o) (length (made_by made (maker_of n o)))) h).1 in
    let maker : maker_of n j ≡ maker_of n o = omega (arith, from, le, lt) in
    let later : place_of n o ≤ place_of n j = omega (arith, from, le, lt) in
    let row : length (made_by made (maker_of n j)) ≡ length (made_by made (maker_of n o)) = ap (λ (t : ℕ). length (made_by made t)) maker in
    let undeclared : nat_lt j (first_made n) ≡ false = grind (arith, nat_tests, from, le) in
    let unmade : nat_lt (place_of n j) (length (made_by made (maker_of n j))) ≡ false = grind (arith, nat_tests, place, later, row) in
    ap (λ (b : Bool). b || nat_lt (place_of n j) (length (made_by made (maker_of n j)))) undeclared ∙ unmade

-- which are further on
pub row_after : (first o : ℕ) → first ≤ o → o < after_row first o
row_after first o le = omega (arith, le)
