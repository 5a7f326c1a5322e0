-- The labels of a thread by their targets, which rise.
use Rattle.std.proofs.Common.{◌≡◌, ℕ, ◌+◌, ◌<◌, ◌≤◌, List, [], ◌∷◌, ◌++◌, length, refl, ap, sym, ◌∙◌, inl}
use Rattle.std.proofs.Common.{inr, arith, append_assoc, append-nil, lt-ltb, le-ltb, eq-eqb, ne_eqb}
use Rattle.std.specs.Prelude.{filter, nat_lt}
use Rattle.std.proofs.lemmas.Bool.{cases_order}
use Rattle.object_program.specs.Valid.{AreTargets}
use Rattle.program_syntax.specs.Canonical.{labels_at}
use Rattle.object_program.specs.declared.program.LabelDef.{LabelDef}
use Rattle.object_program.specs.declared.program.Code.{Code}

-- the labels that name an instruction before that with number n
abbrev pub labels_below : ℕ → List LabelDef → List LabelDef
labels_below n labels = filter (λ l. nat_lt l.index n) labels

-- those that name these instructions, the first of which has number n
abbrev pub labels_from : List LabelDef → ℕ → List Code → List LabelDef
labels_from labels n [] = []
labels_from labels n (c ∷ cs) = labels_at n labels ++ labels_from labels (n + 1) cs

pub none_below : (code m n : ℕ) (labels : List LabelDef) → AreTargets code m labels → n ≤ m → labels_below n labels ≡ []
none_below code m n [] h le = refl
none_below code m n (l ∷ ls) h le =
    rw (le-ltb l.index n (omega (arith, h.0))) (none_below code l.index n ls h.2 (omega (arith, h.0)))

pub all_below : (code m : ℕ) (labels : List LabelDef) → AreTargets code m labels → labels_below (code + 1) labels ≡ labels
all_below code m [] h = refl
all_below code m (l ∷ ls) h = rw (lt-ltb l.index (code + 1) (omega (arith, h.1))) (ap (λ xs. l ∷ xs) (all_below code l.index ls h.2))

below_next_before : (n : ℕ) (l : LabelDef) (ls : List LabelDef) → l.index < n → labels_below n ls ++ labels_at n ls ≡ labels_below (n + 1) ls
    → labels_below n (l ∷ ls) ++ labels_at n (l ∷ ls) ≡ labels_below (n + 1) (l ∷ ls)
below_next_before n l ls lt ih =
    rw (lt-ltb l.index n lt, lt-ltb l.index (n + 1) (omega arith), ne_eqb l.index n (λ e. omega arith)) (ap (λ xs. l ∷ xs) ih)

below_next_at : (n : ℕ) (l : LabelDef) (ls : List LabelDef) → l.index ≡ n
    → labels_below n ls ≡ [] → labels_below n ls ++ labels_at n ls ≡ labels_below (n + 1) ls
    → labels_below n (l ∷ ls) ++ labels_at n (l ∷ ls) ≡ labels_below (n + 1) (l ∷ ls)
below_next_at n l ls e none ih =
    let k : labels_at n ls ≡ labels_below (n + 1) ls = rw none at ih in
    rw (le-ltb l.index n (omega arith), lt-ltb l.index (n + 1) (omega arith), eq-eqb l.index n e, none) (ap (λ xs. l ∷ xs) k)

below_next_after : (n : ℕ) (l : LabelDef) (ls : List LabelDef) → n < l.index → labels_below n ls ++ labels_at n ls ≡ labels_below (n + 1) ls
    → labels_below n (l ∷ ls) ++ labels_at n (l ∷ ls) ≡ labels_below (n + 1) (l ∷ ls)
below_next_after n l ls lt ih =
    rw (le-ltb l.index n (omega arith), le-ltb l.index (n + 1) (omega arith), ne_eqb l.index n (λ e. omega arith)) ih

-- the labels of the next instruction stand after those of the ones before it
pub below_next : (code m n : ℕ) (labels : List LabelDef) → AreTargets code m labels → labels_below n labels ++ labels_at n labels ≡ labels_below (n + 1) labels
below_next code m n [] h = refl
below_next code m n (l ∷ ls) h =
    elim (cases_order l.index n) [
      | inl e ↦ below_next_at n l ls e (none_below code l.index n ls h.2 (omega arith)) (below_next code l.index n ls h.2)
      | inr r ↦ elim r [
        | inl lt ↦ below_next_before n l ls lt (below_next code l.index n ls h.2)
        | inr gt ↦ below_next_after n l ls gt (below_next code l.index n ls h.2)
      ]
    ]

-- the labels of a thread are those before instruction n and those from it on
pub below_from : (code m n : ℕ) (labels : List LabelDef) (cs : List Code) → AreTargets code m labels → n + length cs ≡ code + 1
    → labels_below n labels ++ labels_from labels n cs ≡ labels
below_from code m n labels [] h e =
    let k : n ≡ code + 1 = omega arith in rw (k, append-nil) (all_below code m labels h)
below_from code m n labels (c ∷ cs) h e =
    sym (append_assoc (labels_below n labels) (labels_at n labels) (labels_from labels (n + 1) cs))
    ∙ ap (λ xs. xs ++ labels_from labels (n + 1) cs) (below_next code m n labels h)
    ∙ below_from code m (n + 1) labels cs h (omega arith)
