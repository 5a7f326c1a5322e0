-- Names in a list of names, and lists at whose end one more is added.
use Rattle.std.proofs.Common.{◌≡◌, ℕ, ◌<◌, Bool, true, false, List, [], ◌∷◌, ◌++◌, length, map, refl, sym, ◌∙◌, arith, IsTrue, bytes_eq}
use Rattle.std.proofs.lemmas.Bool.{or_parts, or_from, false_from_ne_true}
use Rattle.std.proofs.lemmas.Slice.Eq.{bytes_eq-Decides}
use Rattle.std.proofs.lemmas.List.{map-append}
use Rattle.std.proofs.lemmas.List.Folds.{list_any-append}
use Rattle.object_program.specs.Name.{is_name}
use Rattle.object_program.specs.Valid.{is_among, AreNames}
use Rattle.program_syntax.specs.Reading.{number_among}

bytes_differ : (a b : List ℕ) → bytes_eq a b ≡ false → bytes_eq b a ≡ false
bytes_differ a b h =
    false_from_ne_true _ (λ e. let same : b ≡ a = (bytes_eq-Decides b a).0 e in let yes : bytes_eq a b ≡ true = (bytes_eq-Decides a b).1 (sym same) in cc)

-- a name after the names that it differs from
pub AreNames-push : (names : List (List ℕ)) (name : List ℕ) → AreNames names
    → IsTrue (is_name name) → is_among names name ≡ false → AreNames (names ++ name ∷ [])
AreNames-push [] name all here new = (here, refl, tt)
AreNames-push (n ∷ ns) name all here new =
    let parts : (bytes_eq n name ≡ false) × (is_among ns name ≡ false) = or_parts _ _ new in
    let after : is_among (name ∷ []) n ≡ false = or_from _ _ (bytes_differ n name parts.0) refl in
    let apart : is_among (ns ++ name ∷ []) n ≡ false = list_any-append (λ k. bytes_eq k n) ns (name ∷ []) ∙ or_from _ _ all.1 after in
    (all.0, apart, AreNames-push ns name all.2 here parts.1)

pub AreNames-push_map : {X : Type 0} (name_of : X → List ℕ) (xs : List X) (x : X)
    → AreNames (map name_of xs) → IsTrue (is_name (name_of x)) → is_among (map name_of xs) (name_of x) ≡ false → AreNames (map name_of (xs ++ x ∷ []))
AreNames-push_map name_of xs x all here new = rw map-append (AreNames-push (map name_of xs) (name_of x) all here new)

number_among_at : (n : List ℕ) (ns : List (List ℕ)) (name : List ℕ) (b : Bool) → bytes_eq n name ≡ b → is_among (n ∷ ns) name ≡ true
    → (is_among ns name ≡ true → number_among ns name < length ns) → number_among (n ∷ ns) name < length (n ∷ ns)
number_among_at n ns name true e among ih = rw e (omega arith)
number_among_at n ns name false e among ih = rw e (let below = ih (rw e at among) in omega arith)

-- a name that stands among names has a number below theirs
pub number_among-lt : (names : List (List ℕ)) (name : List ℕ) → is_among names name ≡ true → number_among names name < length names
number_among-lt [] name among = absurd (cc among)
number_among-lt (n ∷ ns) name among = number_among_at n ns name (bytes_eq n name) refl among (number_among-lt ns name)
