-- The labels of a section: which of them stand on the lines so far, and which instruction one names.
use Rattle.std.proofs.Common.{◌≡◌, ℕ, zero, suc, ◌+◌, Bool, true, false, ◌&&◌, ◌||◌, nat_lt, List, [], ◌∷◌, map, take, refl, arith, slice_index_or, add-one}
use Rattle.std.specs.Str.{bytes_eq}
use Rattle.std.proofs.lemmas.Bool.Decides.{nat_tests}
use Rattle.object_program.specs.Valid.{is_among}
use Rattle.program_syntax.specs.Reading.{number_among, target_among}
use Rattle.object_program.specs.declared.program.LabelDef.{LabelDef}

-- a name is that of one of the first n items just where the first item with the name is
among_at : {X : Type 0} (f : X → List ℕ) (x : X) (xs : List X) (n : ℕ) (name : List ℕ) (b : Bool) → bytes_eq (f x) name ≡ b
    → is_among (map f (take n xs)) name ≡ (is_among (map f xs) name && nat_lt (number_among (map f xs) name) n)
    → (bytes_eq (f x) name || is_among (map f (take n xs)) name)
    ≡ ((bytes_eq (f x) name || is_among (map f xs) name) && nat_lt (number_among (map f (x ∷ xs)) name) (suc n))
among_at f x xs n name true e ih = rw e (grind (arith, nat_tests))
among_at f x xs n name false e ih = rw (e, ih) (shifted (is_among (map f xs) name) (number_among (map f xs) name) n) where
  shifted : (b : Bool) (k n : ℕ) → (b && nat_lt k n) ≡ (b && nat_lt (k + 1) (suc n))
  shifted true k n = grind (arith, nat_tests)
  shifted false k n = refl

pub is_among-take : {X : Type 0} (f : X → List ℕ) (xs : List X) (n : ℕ) (name : List ℕ)
    → is_among (map f (take n xs)) name ≡ (is_among (map f xs) name && nat_lt (number_among (map f xs) name) n)
is_among-take f [] zero name = refl
is_among-take f [] (suc n) name = refl
is_among-take f (x ∷ xs) zero name = none (is_among (map f (x ∷ xs)) name) (number_among (map f (x ∷ xs)) name) where
  none : (b : Bool) (k : ℕ) → false ≡ (b && nat_lt k zero)
  none true k = grind (arith, nat_tests)
  none false k = refl
is_among-take f (x ∷ xs) (suc n) name = among_at f x xs n name (bytes_eq (f x) name) refl (is_among-take f xs n name)

-- the first label with a name says what it names
found_at : (l : LabelDef) (ls : List LabelDef) (name : List ℕ) (d : LabelDef) (b : Bool)
    → bytes_eq l.name name ≡ b → is_among (map (λ l. l.name) (l ∷ ls)) name ≡ true
    → (is_among (map (λ l. l.name) ls) name ≡ true → target_among ls name ≡ (slice_index_or ls (number_among (map (λ l. l.name) ls) name) d).index)
    → target_among (l ∷ ls) name ≡ (slice_index_or (l ∷ ls) (number_among (map (λ l. l.name) (l ∷ ls)) name) d).index
found_at l ls name d true e among ih = rw e refl
found_at l ls name d false e among ih = rw e (next (number_among (map (λ l. l.name) ls) name) (ih (rw e at among))) where
  next : (k : ℕ) → target_among ls name ≡ (slice_index_or ls k d).index → target_among ls name ≡ (slice_index_or (l ∷ ls) (k + 1) d).index
  next k h = rw add-one h

pub target_among-found : (ls : List LabelDef) (name : List ℕ) (d : LabelDef) → is_among (map (λ l. l.name) ls) name ≡ true
    → target_among ls name ≡ (slice_index_or ls (number_among (map (λ l. l.name) ls) name) d).index
target_among-found [] name d among = absurd (cc among)
target_among-found (l ∷ ls) name d among = found_at l ls name d (bytes_eq l.name name) refl among (target_among-found ls name d)

absent_at : (l : LabelDef) (ls : List LabelDef) (name : List ℕ) (b : Bool) → bytes_eq l.name name ≡ b → is_among (map (λ l. l.name) (l ∷ ls)) name ≡ false
    → (is_among (map (λ l. l.name) ls) name ≡ false → target_among ls name ≡ 0) → target_among (l ∷ ls) name ≡ 0
absent_at l ls name true e absent ih = absurd (cc (rw e at absent))
absent_at l ls name false e absent ih = rw e (ih (rw e at absent))

pub target_among-absent : (ls : List LabelDef) (name : List ℕ) → is_among (map (λ l. l.name) ls) name ≡ false → target_among ls name ≡ 0
target_among-absent [] name absent = refl
target_among-absent (l ∷ ls) name absent = absent_at l ls name (bytes_eq l.name name) refl absent (target_among-absent ls name)
