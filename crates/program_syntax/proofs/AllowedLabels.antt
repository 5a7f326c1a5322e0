-- Labels: the names that jumps use, and the numbers that labels stand for.
use Rattle.std.proofs.Common.{◌≡◌, ℕ, ◌≤◌, Bool, true, false, List, [], ◌∷◌, ◌++◌, map, refl, sym, subst, arith, bytes_eq, eq-eqb}
use Rattle.std.proofs.lemmas.Bool.{or_left, or_right}
use Rattle.object_program.specs.Valid.{is_among, is_target, AreTargets}
use Rattle.program_syntax.specs.Reading.{target_among}
use Rattle.object_program.specs.declared.program.LabelDef.{LabelDef}

target_among_at : (l : LabelDef) (ls : List LabelDef) (name : List ℕ) (b : Bool) → bytes_eq l.name name ≡ b → is_among (map (λ d. d.name) (l ∷ ls)) name ≡ true
    → (is_among (map (λ d. d.name) ls) name ≡ true → is_target ls (target_among ls name) ≡ true) → is_target (l ∷ ls) (target_among (l ∷ ls) name) ≡ true
target_among_at l ls name true e among ih =
    let here : target_among (l ∷ ls) name ≡ l.index = rw e refl in
    or_left _ _ (eq-eqb _ _ (sym here))
target_among_at l ls name false e among ih =
    let after : target_among ls name ≡ target_among (l ∷ ls) name = rw e refl in
    subst (λ i. is_target (l ∷ ls) i ≡ true) after (or_right _ _ (ih (rw e at among)))

-- a name among those of the labels stands for the target of one of them
pub is_target-target_among : (labels : List LabelDef) (name : List ℕ) → is_among (map (λ d. d.name) labels) name ≡ true
    → is_target labels (target_among labels name) ≡ true
is_target-target_among [] name among = absurd (cc among)
is_target-target_among (l ∷ ls) name among = target_among_at l ls name (bytes_eq l.name name) refl among (is_target-target_among ls name)

-- targets of more instructions
pub AreTargets-more : (c e n : ℕ) → c ≤ e → (ls : List LabelDef) → AreTargets c n ls → AreTargets e n ls
AreTargets-more c e n ce [] h = tt
AreTargets-more c e n ce (l ∷ ls) h = (h.0, omega arith, AreTargets-more c e l.index ce ls h.2)

-- a label for the last of them
pub AreTargets-push : (c n : ℕ) (ls : List LabelDef) (l : LabelDef) → n ≤ c → l.index ≡ c → AreTargets c n ls → AreTargets c n (ls ++ l ∷ [])
AreTargets-push c n [] l nc e h = (omega arith, omega arith, tt)
AreTargets-push c n (d ∷ ds) l nc e h = (h.0, h.1, AreTargets-push c d.index ds l h.1 e h.2)
