-- The store of two states, part by part: which objects it has, and what a change of either state makes of it.
use Rattle.std.proofs.Common.{◌≡◌, ◌≢◌, ℕ, zero, suc, ◌≤◌, Bool, true, false, ◌||◌, nat_lt, cond, List, [], ◌∷◌, map, length, slice_get}
use Rattle.std.proofs.Common.{slice_index, slice_index_or, slice_set, Option, Some, None, is_some, option_map, refl, ap, sym, ◌∙◌, arith}
use Rattle.std.proofs.lemmas.Bool.Decides.{nat_tests}
use Rattle.std.specs.List.{list_all}
use Rattle.plain_monitor.specs.Objects.{PlainObject}
use Rattle.plain_monitor.specs.Made.{Numbering, first_made, maker_of, place_of, made_by, class_if_there, is_there}
use Rattle.plain_history.specs.Store.{with_classes}

-- CLASSES. An object with a class is in the list with it.
pub get_classes : (class : ℕ → Option ℕ) (xs : List PlainObject) (o : ℕ) (x : PlainObject) → slice_get xs o ≡ Some x
    → slice_index_or (with_classes class xs) o None ≡ option_map (λ c. (c, x)) (class o)
get_classes class [] o x h = absurd (cc h)
get_classes class (y ∷ xs) zero x h = ap (λ z. option_map (λ c. (c, z)) (class 0)) (let same : y ≡ x = cc h in same)
get_classes class (y ∷ xs) (suc o) x h = get_classes (λ i. class (suc i)) xs o x h

-- past the end there is none
pub past_classes : (class : ℕ → Option ℕ) (xs : List PlainObject) (o : ℕ) → slice_get xs o ≡ None → slice_index_or (with_classes class xs) o None ≡ None
past_classes class [] o h = refl
past_classes class (y ∷ xs) zero h = absurd (cc h)
past_classes class (y ∷ xs) (suc o) h = past_classes (λ i. class (suc i)) xs o h

-- a write into the objects is one into the list
pub set_classes : (class : ℕ → Option ℕ) (xs : List PlainObject) (o c : ℕ) (y : PlainObject) → class o ≡ Some c
    → with_classes class (slice_set xs o y) ≡ slice_set (with_classes class xs) o (Some (c, y))
set_classes class [] o c y h = refl
set_classes class (x ∷ xs) zero c y h = ap (λ k. option_map (λ i. (i, y)) k ∷ with_classes (λ i. class (suc i)) xs) h
set_classes class (x ∷ xs) (suc o) c y h = ap (λ zs. option_map (λ i. (i, x)) (class 0) ∷ zs) (set_classes (λ i. class (suc i)) xs o c y h)

-- other classes, which are the same
same_class : (x : PlainObject) (c d : Option ℕ) → c ≡ d → option_map {U = ℕ × PlainObject} (λ i. (i, x)) c ≡ option_map (λ i. (i, x)) d
same_class x c d e = ap (option_map {U = ℕ × PlainObject} (λ i. (i, x))) e

pub same_classes : (class other : ℕ → Option ℕ) (xs : List PlainObject) → ((i : ℕ) → other i ≡ class i) → with_classes other xs ≡ with_classes class xs
same_classes class other [] same = refl
same_classes class other (x ∷ xs) same =
    let head = same_class x (other 0) (class 0) (same 0) in
    let tail = same_classes (λ i. class (suc i)) (λ i. other (suc i)) xs (λ i. same (suc i)) in
    rw (head, tail) refl

-- a class more is a write into the list
pub class_comes : (class other : ℕ → Option ℕ) (xs : List PlainObject) (o c : ℕ) (x : PlainObject) → slice_get xs o ≡ Some x → other o ≡ Some c
    → ((i : ℕ) → i ≢ o → other i ≡ class i) → with_classes other xs ≡ slice_set (with_classes class xs) o (Some (c, x))
class_comes class other [] o c x at is same = absurd (cc at)
class_comes class other (y ∷ xs) zero c x at is same =
    let here : y ≡ x = cc at in
    let head : option_map {U = ℕ × PlainObject} (λ k. (k, y)) (other 0) ≡ Some (c, x) =
    same_class y (other 0) (Some c) is ∙ ap (λ z. Some (c, z)) here in
    let tail = same_classes (λ i. class (suc i)) (λ i. other (suc i)) xs (λ i. same (suc i) (λ e. absurd (omega (arith, e)))) in
    rw (head, tail) refl
class_comes class other (y ∷ xs) (suc o) c x at is same =
    let head = same_class y (other 0) (class 0) (same 0 (λ e. absurd (omega (arith, e)))) in
    let tail = class_comes (λ i. class (suc i)) (λ i. other (suc i)) xs o c x at is (λ i d. same (suc i) (λ e. d (omega (arith, e)))) in
    rw (head, tail) refl

-- WHAT IS THERE has a class
pub get_some : (xs : List ℕ) (k : ℕ) → is_some (slice_get xs k) ≡ nat_lt k (length xs)
get_some [] k = sym (grind (arith, nat_tests))
get_some (x ∷ xs) zero = sym (grind (arith, nat_tests))
get_some (x ∷ xs) (suc k) = get_some xs k ∙ grind (arith, nat_tests)

pub there_has_class : (n : Numbering) (made : List (List ℕ)) (o : ℕ) → is_some (class_if_there n made o) ≡ is_there n made o
there_has_class n made o = by_test (nat_lt o (first_made n)) refl
  where
    by_test : (b : Bool) → nat_lt o (first_made n) ≡ b
        → is_some (cond b (slice_get n.declared o) (slice_get (made_by made (maker_of n o)) (place_of n o)))
        ≡ (b || nat_lt (place_of n o) (length (made_by made (maker_of n o))))
    by_test true e = get_some n.declared o ∙ e
    by_test false e = get_some (made_by made (maker_of n o)) (place_of n o)

pub mapped_some : {A B : Type 0} (f : A → B) (m : Option A) → is_some (option_map f m) ≡ is_some m
mapped_some f None = refl
mapped_some f (Some a) = refl

pub some_class : (m : Option ℕ) → is_some m ≡ true → (c : ℕ) × (m ≡ Some c)
some_class None h = absurd (cc h)
some_class (Some c) h = (c, refl)

-- two tests that agree on each of a list agree on all of it
pub all_alike : (f g : ℕ → Bool) (os : List ℕ) → ((o : ℕ) → f o ≡ g o) → list_all f os ≡ list_all g os
all_alike f g [] same = refl
all_alike f g (o ∷ os) same = let head = same o in let tail = all_alike f g os same in rw (head, tail) refl

-- COUNTS
pub count_is : (made : List (List ℕ)) (t : ℕ) → slice_index (map (λ (row : List ℕ). length row) made) t ≡ length (made_by made t)
count_is [] t = refl
count_is (row ∷ made) zero = refl
count_is (row ∷ made) (suc t) = count_is made t

pub counts_set : (made : List (List ℕ)) (t : ℕ) (row : List ℕ)
    → map (λ (r : List ℕ). length r) (slice_set made t row) ≡ slice_set (map (λ (r : List ℕ). length r) made) t (length row)
counts_set [] t row = refl
counts_set (r ∷ made) zero row = refl
counts_set (r ∷ made) (suc t) row = ap (λ zs. length r ∷ zs) (counts_set made t row)

-- past the rows there is none
pub row_past : (made : List (List ℕ)) (u : ℕ) → length made ≤ u → made_by made u ≡ []
row_past [] u h = refl
row_past (row ∷ made) zero h = absurd (omega (arith, h))
row_past (row ∷ made) (suc u) h = row_past made u (omega (arith, h))
