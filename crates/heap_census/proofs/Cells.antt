-- Counts of hold words, cells and lengths, one more at a time.
use Rattle.std.proofs.Common.{◌≡◌, ℕ, zero, suc, ◌+◌, ◌<◌, List, [], ◌∷◌, ◌++◌, length, take, Option, refl, ap, ◌∙◌, arith}
use Rattle.core_world.specs.Locks.{count_where}
use Rattle.core_world.specs.RevocationRules.{words_from}
use Rattle.core_world.specs.Steps.{cells_from, owner_and_count_in}
use Rattle.core_world.specs.Threads.Stages.{one_if}
use Rattle.core_world.specs.Words.Forms.{names}
use Rattle.core_world.specs.Words.Shape.{Shape}
use Rattle.core_world.specs.declared.word_id.WordId.{WordId}

pub count_more : (o p j n : ℕ) (f : ℕ → ℕ)
    → count_where (λ q h. names o h) p (words_from j (suc n) f) ≡ count_where (λ q h. names o h) p (words_from j n f) + one_if (names o (f (j + n)))
count_more o p j zero f = let e : j + 0 ≡ j = omega arith in omega (arith, ap (λ q. one_if (names o (f q))) e)
count_more o p j (suc n) f =
    let a = count_more o (p + 1) (j + 1) n f in
    let e : j + 1 + n ≡ j + suc n = omega arith in
    let b = ap (λ q. one_if (names o (f q))) e in
    omega (arith, a, b)

pub words_more : (j n : ℕ) (f : ℕ → ℕ) → words_from j (suc n) f ≡ words_from j n f ++ f (j + n) ∷ []
words_more j zero f = let e : j ≡ j + 0 = omega arith in ap (λ q. f q ∷ []) e
words_more j (suc n) f =
    let a = words_more (j + 1) n f in
    let e : j + 1 + n ≡ j + suc n = omega arith in
    ap (λ (x : List ℕ). f j ∷ x) a ∙ ap (λ q. f j ∷ words_from (j + 1) n f ++ f q ∷ []) e

pub cells_more : (s : Shape) (f : WordId → ℕ) (o i : ℕ) (xs : List (ℕ × ℕ)) → i < length xs
    → cells_from o (take (suc i) xs) s f ≡ cells_from o (take i xs) s f ++ owner_and_count_in s f (o + i) ∷ []
cells_more s f o i [] h = absurd (omega (arith, h))
cells_more s f o zero (x ∷ xs) h = let e : o ≡ o + 0 = omega arith in ap (λ q. owner_and_count_in s f q ∷ []) e
cells_more s f o (suc i) (x ∷ xs) h =
    let a = cells_more s f (o + 1) i xs (omega (arith, h)) in
    let e : o + 1 + i ≡ o + suc i = omega arith in
    ap (λ (z : List (Option ℕ × ℕ)). owner_and_count_in s f o ∷ z) a
    ∙ ap (λ q. owner_and_count_in s f o ∷ cells_from (o + 1) (take i xs) s f ++ owner_and_count_in s f q ∷ []) e

pub take_all : {A : Type 0} (xs : List A) → take (length xs) xs ≡ xs
take_all [] = refl
take_all (x ∷ xs) = ap (λ z. x ∷ z) (take_all xs)
