-- A list to which what each item of another one gives is pushed, in their order.
use Rattle.std.proofs.Common.{◌≡◌, ℕ, ◌<◌, ◌≤◌, List, [], ◌∷◌, ◌++◌, All, length, map, subst, sym, ap, ◌∙◌, append_assoc, append-nil, length-append, arith}
use Rattle.std.proofs.lemmas.List.{nil_from_length}
use Rattle.std.proofs.lemmas.List.Elements.{All-push}
use mathlib.Core.List.{map-append}

-- a pass over a list: what came before, and the rest
module _ {A : Type 0} (all before rest : List A) (whole : before ++ rest ≡ all) where
  pub has_room : (x : A) (left : List A) (len cap : ℕ) → rest ≡ x ∷ left → len ≡ length before → length all ≤ cap → len < cap
  has_room x left len cap next is room =
      let count = ap length (ap (λ l. before ++ l) (sym next) ∙ whole) in
      let parts = length-append before (x ∷ left) in
      omega (arith, count, parts, is, room)

  pub whole_on : (x : A) (left : List A) → rest ≡ x ∷ left → (before ++ x ∷ []) ++ left ≡ all
  whole_on x left next = append_assoc before (x ∷ []) left ∙ ap (λ l. before ++ l) (sym next) ∙ whole

  pub all_before : length rest ≡ 0 → before ≡ all
  all_before none = sym (append-nil before) ∙ ap (λ l. before ++ l) (sym (nil_from_length rest none)) ∙ whole

pub pushed_on : {A B : Type 0} (f : A → B) (before : List A) (x : A) (y : B) (ys zs : List B) → ys ≡ map f before → zs ≡ ys ++ y ∷ [] → y ≡ f x
    → zs ≡ map f (before ++ x ∷ [])
pushed_on f before x y ys zs are pushed is =
    pushed ∙ ap (λ l. l ++ y ∷ []) are ∙ ap (λ z. map f before ++ z ∷ []) is ∙ sym (map-append f before (x ∷ []))

-- what holds of all stays so where it holds of the one that is pushed
pub all_with : {A : Type 0} (P : A → Type 0) (xs ys : List A) (x : A) → ys ≡ xs ++ x ∷ [] → All P xs → P x → All P ys
all_with P xs ys x pushed all this = subst (All P) (sym pushed) (All-push P xs x all this)
