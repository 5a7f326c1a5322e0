-- Facts of all of a list, by recursion and by place, which the crates above use too.
use Rattle.std.proofs.Common.{◌≡◌, ◌≢◌, ℕ, zero, suc, List, [], ◌∷◌, ◌++◌, map, replicate, slice_get, slice_index_or, slice_set, Some, refl, ap, subst}
use Rattle.std.specs.List.{AllByRecursion}
use Rattle.std.proofs.lemmas.Option.{none-some}

-- what holds of all holds of the one at a place
pub all_at : {X : Type 0} (P : X → Type 0) (xs : List X) (k : ℕ) (x : X) → AllByRecursion P xs → slice_get xs k ≡ Some x → P x
all_at P [] k x all e = absurd (none-some x e)
all_at P (y ∷ xs) zero x all e = let same : y ≡ x = cc in subst P same all.0
all_at P (y ∷ xs) (suc k) x all e = all_at P xs k x all.1 e

-- the same, or of what stands for one that isn't there
pub all_or : {X : Type 0} (P : X → Type 0) (xs : List X) (k : ℕ) (d : X) → P d → AllByRecursion P xs → P (slice_index_or xs k d)
all_or P [] k d h all = h
all_or P (y ∷ xs) zero d h all = all.0
all_or P (y ∷ xs) (suc k) d h all = all_or P xs k d h all.1

-- it holds of all after a write
pub all_set : {X : Type 0} (P : X → Type 0) (xs : List X) (k : ℕ) (y : X) → P y → AllByRecursion P xs → AllByRecursion P (slice_set xs k y)
all_set P [] k y h all = tt
all_set P (x ∷ xs) zero y h all = (h, all.1)
all_set P (x ∷ xs) (suc k) y h all = (all.0, all_set P xs k y h all.1)

pub all_replicate : {X : Type 0} (P : X → Type 0) (n : ℕ) (x : X) → P x → AllByRecursion P (replicate n x)
all_replicate P zero x h = tt
all_replicate P (suc n) x h = (h, all_replicate P n x h)

-- what follows from it holds of all
pub all_weaker : {X : Type 0} (P Q : X → Type 0) → ((x : X) → P x → Q x) → (xs : List X) → AllByRecursion P xs → AllByRecursion Q xs
all_weaker P Q f [] all = tt
all_weaker P Q f (x ∷ xs) all = (f x all.0, all_weaker P Q f xs all.1)

pub all_map : {X Y : Type 0} (P : Y → Type 0) (f : X → Y) (xs : List X) → AllByRecursion (λ x. P (f x)) xs → AllByRecursion P (map f xs)
all_map P f [] all = tt
all_map P f (x ∷ xs) all = (all.0, all_map P f xs all.1)

-- what holds of everything holds of all of a list
pub all_each : {X : Type 0} (P : X → Type 0) (xs : List X) → ((x : X) → P x) → AllByRecursion P xs
all_each P [] f = tt
all_each P (x ∷ xs) f = (f x, all_each P xs f)

-- it holds of all of two lists in a row, and of a list and one more
pub all_append : {X : Type 0} (P : X → Type 0) (xs ys : List X) → AllByRecursion P xs → AllByRecursion P ys → AllByRecursion P (xs ++ ys)
all_append P [] ys a b = b
all_append P (x ∷ xs) ys a b = (a.0, all_append P xs ys a.1 b)

pub all_push : {X : Type 0} (P : X → Type 0) (xs : List X) (x : X) → AllByRecursion P xs → P x → AllByRecursion P (xs ++ x ∷ [])
all_push P xs x all here = all_append P xs (x ∷ []) all (here, tt)

-- a write is read at its place, and nowhere else
pub get_set_same : {X : Type 0} (xs : List X) (k : ℕ) (x y : X) → slice_get xs k ≡ Some x → slice_get (slice_set xs k y) k ≡ Some y
get_set_same [] k x y e = absurd (none-some x e)
get_set_same (z ∷ xs) zero x y e = refl
get_set_same (z ∷ xs) (suc k) x y e = get_set_same xs k x y e

pub get_set_other : {X : Type 0} (xs : List X) (k j : ℕ) (y : X) → k ≢ j → slice_get (slice_set xs k y) j ≡ slice_get xs j
get_set_other [] k j y d = refl
get_set_other (z ∷ xs) zero zero y d = absurd (d refl)
get_set_other (z ∷ xs) zero (suc j) y d = refl
get_set_other (z ∷ xs) (suc k) zero y d = refl
get_set_other (z ∷ xs) (suc k) (suc j) y d = get_set_other xs k j y (λ e. d (ap suc e))
