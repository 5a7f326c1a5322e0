-- The first values of a list.
use Rattle.std.proofs.Common.{◌≡◌, ℕ, zero, suc, List, [], ◌∷◌, take, set, refl, ap}

-- a write shows in them where it is to one of them
pub take_set : {X : Type 0} → (n : ℕ) (xs : List X) (k : ℕ) (x : X) → take n (set xs k x) ≡ set (take n xs) k x
take_set zero xs k x = refl
take_set (suc n) [] k x = refl
take_set (suc n) (y ∷ ys) zero x = refl
take_set (suc n) (y ∷ ys) (suc k) x = ap (λ zs. y ∷ zs) (take_set n ys k x)
