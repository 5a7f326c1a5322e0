-- The labels of numbers, one number after the other, and the bytes of their names.
use Rattle.std.proofs.Common.{◌≡◌, ℕ, suc, ◌+◌, ◌≤◌, List, [], ◌∷◌, ◌++◌, length, take, map, filter, true}
use Rattle.std.proofs.Common.{false, Bool, if◌then◌else◌, ◌-◌, append_assoc, refl, sym, ap, ◌∙◌, arith}
use Rattle.std.proofs.Math.Numerals.{add-one}
use Rattle.std.proofs.Math.Seq.{take-append_seam}
use Rattle.std.specs.Prelude.{decimal}
use Rattle.object_program.specs.declared.program.LabelDef.{LabelDef}
use Rattle.std.specs.List.{AllByRecursion}
use Rattle.sync_source.specs.Compiled.{label, numbers_from}

-- the bytes of a label, cut from what stands after them
pub label_bytes : (xs ys : List ℕ) → take (length xs + 1) (76 ∷ (xs ++ ys)) ≡ 76 ∷ xs
label_bytes xs ys = rw add-one (ap (λ zs. 76 ∷ zs) (take-append_seam xs ys))

pub label_cut : (k : ℕ) (zs xs ys : List ℕ) → zs ≡ xs → k ≡ length xs + 1 → take k (76 ∷ (zs ++ ys)) ≡ 76 ∷ xs
label_cut k zs xs ys e l =
    ap (λ n. take n (76 ∷ (zs ++ ys))) l ∙ ap (λ w. take (length xs + 1) (76 ∷ (w ++ ys))) e ∙ label_bytes xs ys

range_step : (n len : ℕ) → n ≤ len → numbers_from n (len + 1 - n) ≡ n ∷ numbers_from (n + 1) (len + 1 - (n + 1))
range_step n len h = let e : len + 1 - n ≡ suc (len + 1 - (n + 1)) = omega arith in ap (numbers_from n) e

-- one number more
pub labels_step : (P : ℕ → Bool) (all : List LabelDef) (n len : ℕ) → n ≤ len → (all ++ map (label decimal) (filter P (n ∷ []))) ++ map (label decimal)
    (filter P (numbers_from (n + 1) (len + 1 - (n + 1)))) ≡ all ++ map (label decimal) (filter P (numbers_from n (len + 1 - n)))
labels_step P all n len h =
    append_assoc all _ _ ∙ ap (λ x. all ++ x) (go (P n)) ∙ ap (λ x. all ++ map (label decimal) (filter P x)) (sym (range_step n len h))
  where
    go : (b : Bool) → map (label decimal) (if b then n ∷ [] else [])
        ++ map (label decimal) (filter P (numbers_from (n + 1) (len + 1 - (n + 1)))) ≡ map (label decimal)
        (if b then n ∷ filter P (numbers_from (n + 1) (len + 1 - (n + 1))) else filter P (numbers_from (n + 1) (len + 1 - (n + 1))))
    go true = refl
    go false = refl

pub all_unmap : {X Y : Type 0} (P : Y → Type 0) (f : X → Y) (xs : List X) → AllByRecursion P (map f xs) → AllByRecursion (λ x. P (f x)) xs
all_unmap P f [] h = tt
all_unmap P f (x ∷ xs) h = (h.0, all_unmap P f xs h.1)

pub labels_go : (P : ℕ → Bool) (all after whole : List LabelDef) (n len : ℕ) (marked : Bool) → n ≤ len → marked ≡ P n
    → after ≡ all ++ map (label decimal) (if marked then n ∷ [] else []) → all ++ map (label decimal) (filter P (numbers_from n (len + 1 - n)))
    ≡ whole → after ++ map (label decimal) (filter P (numbers_from (n + 1) (len + 1 - (n + 1)))) ≡ whole
labels_go P all after whole n len marked h is e f =
    let one : after ≡ all ++ map (label decimal) (filter P (n ∷ [])) = e ∙ ap (λ (b : Bool). all ++ map (label decimal) (if b then n ∷ [] else [])) is in
    ap (λ xs. xs ++ map (label decimal) (filter P (numbers_from (n + 1) (len + 1 - (n + 1))))) one ∙ labels_step P all n len h ∙ f
