-- Copies that were made place by place are a copy of the whole list.
use Rattle.std.proofs.Common.{◌≡◌, ℕ, suc, ◌<◌, List, [], ◌∷◌, Option, None, Some, IfSome, length, map, slice_get, slice_index_or}
use Rattle.std.proofs.Common.{refl, sym, ap, ◌∙◌, arith}
use Rattle.std.proofs.lemmas.Option.{same_Some}

pub same_copies : {X : Type 0} (all copied : List X) → length (map Some copied) ≡ length all
    → ((i : ℕ) (d : Option X) → i < length all → IfSome (slice_index_or (map Some copied) i d) (λ x. slice_get all i ≡ Some x)) → copied ≡ all
same_copies [] [] e h = refl
same_copies [] (y ∷ ys) e h = absurd (omega (arith, e))
same_copies (x ∷ xs) [] e h = absurd (omega (arith, e))
same_copies (x ∷ xs) (y ∷ ys) e h =
    let head : y ≡ x = sym (same_Some x y (h 0 None (omega (arith)))) in
    let tail = same_copies xs ys (omega (arith, e)) (λ i d lt. h (suc i) d (omega (arith, lt))) in
    ap (λ z. z ∷ ys) head ∙ ap (λ zs. x ∷ zs) tail
