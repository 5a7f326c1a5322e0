-- Texts and lists of words, as the code takes them apart.
use Rattle.std.proofs.Common.{◌≡◌, ◌≢◌, ◌∙◌, ℕ, ◌+◌, ◌<◌, Bool, true, false, eqb, List, [], ◌∷◌, length, drop}
use Rattle.std.proofs.Common.{map, get_or, refl, sym, ap, arith, eqb-true, Option, Some, None, option_map}
use Rattle.std.specs.Prelude.{MatchOption}
use Rattle.std.specs.Borrow.{Bor}
use Rattle.std.specs.List.{list_any, position_or_len}
use Rattle.std.proofs.lemmas.List.{at_drop_more, drop-map}
use Rattle.cli_args.specs.Command.{Text, after_hyphen}

no_hyphen : (b : ℕ) (bs : Text) (t : Bool) → eqb b 45 ≡ t → ((rest : Text) → (b ∷ bs) ≢ (45 ∷ rest)) → None ≡ after_hyphen (b ∷ bs)
no_hyphen b bs true e h = absurd (h bs (ap (λ x. x ∷ bs) (eqb-true b 45 e)))
no_hyphen b bs false e h = rw e refl

pub after_hyphen_by_strip : (r : Option (Bor Text)) (bs : Text) → MatchOption r ((rest : Text) → bs ≢ (45 ∷ rest)) (λ x. bs ≡ 45 ∷ x.now)
    → option_map (λ s. s.now) r ≡ after_hyphen bs
after_hyphen_by_strip None [] h = refl
after_hyphen_by_strip None (b ∷ bs) h = no_hyphen b bs (eqb b 45) refl h
after_hyphen_by_strip (Some x) bs h = rw h refl

none_after : {X : Type 0} (p : X → Bool) (x : X) (xs : List X) (t : Bool) → p x ≡ t
    → (position_or_len p xs ≡ length xs → list_any p xs ≡ false) → position_or_len p (x ∷ xs) ≡ length (x ∷ xs) → list_any p (x ∷ xs) ≡ false
none_after p x xs true e again h = let h2 = rw e at h in absurd (omega arith)
none_after p x xs false e again h = let h2 = rw e at h in rw e (again (omega arith))

pub list_any_at_no_place : {X : Type 0} (p : X → Bool) (xs : List X) → position_or_len p xs ≡ length xs → list_any p xs ≡ false
list_any_at_no_place p [] h = refl
list_any_at_no_place p (x ∷ xs) h = none_after p x xs (p x) refl (list_any_at_no_place p xs) h

-- a function of what is left of a list, by the item at the index
pub rest_at_index : {X Y : Type 0} (F : List Text → Y) (f : X → Text) (ws : List X) (i : ℕ) (d : X) → i < length ws
    → F (drop i (map f ws)) ≡ F (f (get_or ws i d) ∷ drop (i + 1) (map f ws))
rest_at_index F f ws i d h =
    ap F (drop-map f i ws)
    ∙ at_drop_more (λ xs. F (map f xs)) ws i d h
    ∙ ap (λ xs. F (f (get_or ws i d) ∷ xs)) (sym (drop-map f (i + 1) ws))

-- the same, by the next item
pub rest_at_item : {X Y : Type 0} (F : List Text → Y) (f : X → Text) (ws : List X) (i : ℕ) (w : X) → i < length ws → w ≡ get_or ws i w
    → F (drop i (map f ws)) ≡ F (f w ∷ drop (i + 1) (map f ws))
rest_at_item F f ws i w h e = rest_at_index F f ws i w h ∙ ap (λ x. F (f x ∷ drop (i + 1) (map f ws))) (sym e)
