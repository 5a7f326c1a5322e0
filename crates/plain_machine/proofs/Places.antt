-- A list whose elements are written in place, one after the other.
use Rattle.std.proofs.Common.{◌≡◌, ℕ, zero, suc, ◌<◌, ◌≤◌, List, [], ◌∷◌, ◌+◌, ◌∙◌, length, map, get_or, set, refl, ap, arith}

-- the first so many elements are written
abbrev pub first_done : {A : Type 0} → (A → A) → ℕ → List A → List A
first_done f zero xs = xs
first_done f (suc n) [] = []
first_done f (suc n) (x ∷ xs) = f x ∷ first_done f n xs

pub one_more : {A : Type 0} (f : A → A) (n : ℕ) (xs : List A) (d : A) → n < length xs
    → set (first_done f n xs) n (f (get_or (first_done f n xs) n d)) ≡ first_done f (suc n) xs
one_more f n [] d lt = absurd (omega (arith, lt))
one_more f zero (x ∷ xs) d lt = refl
one_more f (suc n) (x ∷ xs) d lt = let less : n < length xs = omega (arith, lt) in ap (λ ys. f x ∷ ys) (one_more f n xs d less)

pub all_done : {A : Type 0} (f : A → A) (n : ℕ) (xs : List A) → length xs ≤ n → first_done f n xs ≡ map f xs
all_done f zero [] le = refl
all_done f (suc n) [] le = refl
all_done f zero (x ∷ xs) le = absurd (omega (arith, le))
all_done f (suc n) (x ∷ xs) le = let less : length xs ≤ n = omega (arith, le) in ap (λ ys. f x ∷ ys) (all_done f n xs less)

-- the next element is written, with what stands there before
pub one_written : {A : Type 0} (f : A → A) (n : ℕ) (first items : List A) (y d : A) → n < length first → y ≡ f (get_or items n d)
    → items ≡ first_done f n first → set items n y ≡ first_done f (n + 1) first
one_written f n first items y d within is inv =
    let next : suc n ≡ n + 1 = omega arith in
    ap (set items n) is ∙ (λ i. set (inv i) n (f (get_or (inv i) n d))) ∙ one_more f n first d within ∙ ap (λ k. first_done f k first) next
