-- Reads, writes and maps of lists, by place.
use Rattle.std.proofs.Common.{◌≡◌, ◌≢◌, ℕ, zero, suc, ◌<◌, ◌≤◌, Bool, true, List, [], ◌∷◌, length, map}
use Rattle.std.proofs.Common.{slice_get, slice_index, slice_index_or, slice_set, Some, refl, ap, ◌∙◌, arith}
use Rattle.std.specs.List.{list_all}
use Rattle.std.proofs.lemmas.Bool.{and_parts, and_from}
use Rattle.std.proofs.lemmas.Option.{none-some, same_Some}

pub read_at : {X : Type 0} (xs : List X) (k : ℕ) (d x : X) → slice_get xs k ≡ Some x → slice_index_or xs k d ≡ x
read_at [] k d x e = absurd (none-some x e)
read_at (y ∷ xs) zero d x e = same_Some y x e
read_at (y ∷ xs) (suc k) d x e = read_at xs k d x e

pub read_beside : {X : Type 0} (xs : List X) (j k : ℕ) (y d : X) → j ≢ k → slice_index_or (slice_set xs j y) k d ≡ slice_index_or xs k d
read_beside [] j k y d apart = refl
read_beside (x ∷ xs) zero zero y d apart = absurd (apart refl)
read_beside (x ∷ xs) zero (suc k) y d apart = refl
read_beside (x ∷ xs) (suc j) zero y d apart = refl
read_beside (x ∷ xs) (suc j) (suc k) y d apart = read_beside xs j k y d (λ e. apart (ap suc e))

-- no list of a list of lists gets shorter where one of them is written that isn't
pub none_shorter : {X : Type 0} (xss : List (List X)) (j k : ℕ) (ys : List X) → length (slice_index_or xss j []) ≤ length ys
    → length (slice_index_or xss k []) ≤ length (slice_index_or (slice_set xss j ys) k [])
none_shorter [] j k ys h = omega arith
none_shorter (xs ∷ xss) zero zero ys h = h
none_shorter (xs ∷ xss) zero (suc k) ys h = omega arith
none_shorter (xs ∷ xss) (suc j) zero ys h = omega arith
none_shorter (xs ∷ xss) (suc j) (suc k) ys h = none_shorter xss j k ys h

pub set_twice : {X : Type 0} (xs : List X) (k : ℕ) (a b : X) → slice_set (slice_set xs k a) k b ≡ slice_set xs k b
set_twice [] k a b = refl
set_twice (y ∷ xs) zero a b = refl
set_twice (y ∷ xs) (suc k) a b = ap (λ (zs : List _). y ∷ zs) (set_twice xs k a b)

pub sets_commute : {X : Type 0} (xs : List X) (j k : ℕ) (a b : X) → j ≢ k
    → slice_set (slice_set xs j a) k b ≡ slice_set (slice_set xs k b) j a
sets_commute [] j k a b apart = refl
sets_commute (y ∷ xs) zero zero a b apart = absurd (apart refl)
sets_commute (y ∷ xs) zero (suc k) a b apart = refl
sets_commute (y ∷ xs) (suc j) zero a b apart = refl
sets_commute (y ∷ xs) (suc j) (suc k) a b apart = ap (λ (zs : List _). y ∷ zs) (sets_commute xs j k a b (λ e. apart (ap suc e)))

pub length_map : {X Y : Type 0} (f : X → Y) (xs : List X) → length (map f xs) ≡ length xs
length_map f [] = refl
length_map f (x ∷ xs) = ap suc (length_map f xs)

pub get_map : {X Y : Type 0} (f : X → Y) (xs : List X) (k : ℕ) (x : X) → slice_get xs k ≡ Some x → slice_get (map f xs) k ≡ Some (f x)
get_map f [] k x e = absurd (none-some x e)
get_map f (y ∷ xs) zero x e = ap (λ z. Some (f z)) (same_Some y x e)
get_map f (y ∷ xs) (suc k) x e = get_map f xs k x e

-- what stands at a place of a mapped list is made of what stands there
pub get_unmap : {X Y : Type 0} (f : X → Y) (xs : List X) (k : ℕ) (y : Y) → slice_get (map f xs) k ≡ Some y
    → (x : X) × (slice_get xs k ≡ Some x) × (f x ≡ y)
get_unmap f [] k y e = absurd (none-some y e)
get_unmap f (x ∷ xs) zero y e = (x, refl, same_Some (f x) y e)
get_unmap f (x ∷ xs) (suc k) y e = get_unmap f xs k y e

pub map_set : {X Y : Type 0} (f : X → Y) (xs : List X) (k : ℕ) (y : X) → map f (slice_set xs k y) ≡ slice_set (map f xs) k (f y)
map_set f [] k y = refl
map_set f (x ∷ xs) zero y = refl
map_set f (x ∷ xs) (suc k) y = ap (λ (zs : List _). f x ∷ zs) (map_set f xs k y)

-- lists of one length that read the same are the same
pub same_list : (xs ys : List ℕ) → length xs ≡ length ys → ((k : ℕ) → k < length xs → slice_index xs k ≡ slice_index ys k) → xs ≡ ys
same_list [] [] n h = refl
same_list [] (y ∷ ys) n h = absurd (omega (arith, n))
same_list (x ∷ xs) [] n h = absurd (omega (arith, n))
same_list (x ∷ xs) (y ∷ ys) n h =
    ap (λ (z : ℕ). z ∷ xs) (h 0 (omega arith))
    ∙ ap (λ (zs : List ℕ). y ∷ zs) (same_list xs ys (omega (arith, n)) (λ k lt. h (suc k) (omega (arith, lt))))

-- a test that each element passes, all pass
pub all_pass : {X : Type 0} (f g : X → Bool) (xs : List X) → ((x : X) → f x ≡ true → g x ≡ true) → list_all f xs ≡ true → list_all g xs ≡ true
all_pass f g [] h all = refl
all_pass f g (x ∷ xs) h all = let p = and_parts (f x) (list_all f xs) all in and_from _ _ (h x p.0) (all_pass f g xs h p.1)
