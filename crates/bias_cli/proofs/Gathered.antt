-- What is gathered of the elements of a list, one after the other: so far, with what is still to come, it is the whole.
use Rattle.std.proofs.Common.{◌≡◌, ℕ, ◌+◌, ◌<◌, ◌≤◌, List, [], ◌∷◌, ◌++◌, length, drop, get_or, map, sym, ap, ◌∙◌, append_assoc, append-nil}
use Rattle.std.specs.List.{flat_map}
use Rattle.std.proofs.lemmas.List.{drop_all, drop_more}

module _ {A B : Type 0} (f : A → B) (xs : List A) (whole : List B) (i : ℕ) where
  pub one_more : (d : A) (y : B) (ys zs : List B) → ys ++ map f (drop i xs) ≡ whole → i < length xs → zs ≡ ys ++ y ∷ [] → y ≡ f (get_or xs i d)
      → zs ++ map f (drop (i + 1) xs) ≡ whole
  one_more d y ys zs before lt pushed is =
      let rest = map f (drop (i + 1) xs) in
      ap (λ l. l ++ rest) pushed ∙ append_assoc ys (y ∷ []) rest ∙ ap (λ z. ys ++ z ∷ rest) is ∙ ap (λ l. ys ++ map f l) (sym (drop_more xs i d lt)) ∙ before

  pub all_in : (ys : List B) → ys ++ map f (drop i xs) ≡ whole → length xs ≤ i → ys ≡ whole
  all_in ys before over = sym (append-nil ys) ∙ ap (λ l. ys ++ map f l) (sym (drop_all i xs over)) ∙ before

module _ {A B : Type 0} (f : A → List B) (xs : List A) (whole : List B) (i : ℕ) where
  pub some_more : (d : A) (y ys zs : List B) → ys ++ flat_map f (drop i xs) ≡ whole → i < length xs → zs ≡ ys ++ y → y ≡ f (get_or xs i d)
      → zs ++ flat_map f (drop (i + 1) xs) ≡ whole
  some_more d y ys zs before lt pushed is =
      let rest = flat_map f (drop (i + 1) xs) in
      ap (λ l. l ++ rest) pushed ∙ append_assoc ys y rest ∙ ap (λ z. ys ++ (z ++ rest)) is
      ∙ ap (λ l. ys ++ flat_map f l) (sym (drop_more xs i d lt)) ∙ before

  pub all_put : (ys : List B) → ys ++ flat_map f (drop i xs) ≡ whole → length xs ≤ i → ys ≡ whole
  all_put ys before over = sym (append-nil ys) ∙ ap (λ l. ys ++ flat_map f l) (sym (drop_all i xs over)) ∙ before
