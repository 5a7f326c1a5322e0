-- What is left of a list from a place on.
use Rattle.std.proofs.Common.{◌≡◌, ℕ, zero, suc, ◌+◌, List, [], ◌∷◌, drop, slice_get, Some, None, ap, ◌∙◌}
use Rattle.std.proofs.Math.Numerals.{add-one}
use Rattle.std.proofs.Math.Seq.{drop-cons, drop-nil}
use Rattle.std.proofs.lemmas.Option.{slice_get_within, get_or_from_slice_get}

-- the item at a place is the first of what is left from there
pub left_from : {A : Type 0} (xs : List A) (n : ℕ) (x : A) → slice_get xs n ≡ Some x → drop n xs ≡ x ∷ drop (n + 1) xs
left_from xs n x h =
    let within = slice_get_within xs n x h in
    let at = get_or_from_slice_get xs n x x h in
    rw add-one (drop-cons xs n x within ∙ ap (λ y. y ∷ drop (suc n) xs) at)

-- nothing is left from a place with no item
pub none_from : {A : Type 0} (xs : List A) (n : ℕ) → slice_get xs n ≡ None → drop n xs ≡ []
none_from [] n h = drop-nil n
none_from (x ∷ xs) zero h = absurd (cc h)
none_from (x ∷ xs) (suc n) h = none_from xs n h
