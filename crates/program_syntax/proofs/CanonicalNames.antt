-- Names are found again at their places.
use Rattle.std.proofs.Common.{◌≡◌, ℕ, ◌<◌, ◌==◌, ◌&&◌, ◌||◌, Bool, true, false, List, [], ◌∷◌, ◌++◌, length}
use Rattle.std.proofs.Common.{map, refl, sym, subst, arith, bytes_eq, zero, suc, get_or, add-one, eqb-true}
use Rattle.std.specs.List.{list_all}
use Rattle.std.proofs.lemmas.Bool.{and_parts, or_parts, or_right, or_left, both_ways, false_from_ne_true}
use Rattle.std.proofs.lemmas.Bool.Decides.{nat_tests}
use Rattle.std.proofs.lemmas.Slice.Eq.{bytes_eq-Decides}
use Rattle.object_program.specs.Name.{is_letter, is_digit, is_name}
use Rattle.object_program.specs.Valid.{is_among, AreNames, is_target}
use Rattle.program_syntax.specs.Reading.{number_among, target_among}
use Rattle.program_syntax.specs.Canonical.{label_name}
use Rattle.object_program.specs.declared.program.LabelDef.{LabelDef}
use Rattle.program_syntax.proofs.CanonicalText.{is_word_byte, is_word}

-- names are words
name_byte : (b : ℕ) → (is_letter b || is_digit b) ≡ true → is_word_byte b ≡ true
name_byte b h = grind (arith, nat_tests)

name_bytes : (bs : List ℕ) → list_all (λ c. is_letter c || is_digit c) bs ≡ true → list_all is_word_byte bs ≡ true
name_bytes [] h = refl
name_bytes (b ∷ bs) h =
    let parts = and_parts (is_letter b || is_digit b) (list_all (λ c. is_letter c || is_digit c) bs) h in
    rw (name_byte b parts.0) (name_bytes bs parts.1)

pub name_word : (w : List ℕ) → is_name w ≡ true → is_word w ≡ true
name_word [] h = absurd (cc h)
name_word (b ∷ bs) h =
    let short = and_parts (is_letter b && list_all (λ c. is_letter c || is_digit c) bs) _ h in
    let parts = and_parts (is_letter b) (list_all (λ c. is_letter c || is_digit c) bs) short.0 in
    rw (name_byte b (or_left (is_letter b) (is_digit b) parts.0)) (name_bytes bs parts.1)

pub same_bytes : (name : List ℕ) → bytes_eq name name ≡ true
same_bytes name = (bytes_eq-Decides name name).1 refl

-- a name that is among others isn't one that isn't
pub bytes_apart : (names : List (List ℕ)) (a b : List ℕ) → is_among names a ≡ false → is_among names b ≡ true → bytes_eq a b ≡ false
bytes_apart names a b h k =
    false_from_ne_true (bytes_eq a b) (λ e. let same : a ≡ b = (bytes_eq-Decides a b).0 e in
    let among : is_among names a ≡ true = rw same k in both_ways (is_among names a) h among)

pub nth_is_name : (names : List (List ℕ)) (i : ℕ) → AreNames names → i < length names → is_name (get_or names i []) ≡ true
nth_is_name [] i h lt = absurd (omega arith)
nth_is_name (n ∷ ns) zero h lt = h.0
nth_is_name (n ∷ ns) (suc i) h lt = nth_is_name ns i h.2 (omega arith)

pub nth_is_among : (names : List (List ℕ)) (i : ℕ) → i < length names → is_among names (get_or names i []) ≡ true
nth_is_among [] i lt = absurd (omega arith)
nth_is_among (n ∷ ns) zero lt = or_left (bytes_eq n n) (is_among ns n) (same_bytes n)
nth_is_among (n ∷ ns) (suc i) lt = or_right (bytes_eq n (get_or ns i [])) _ (nth_is_among ns i (omega arith))

pub number_among-nth : (names : List (List ℕ)) (i : ℕ) → AreNames names → i < length names → number_among names (get_or names i []) ≡ i
number_among-nth [] i h lt = absurd (omega arith)
number_among-nth (n ∷ ns) zero h lt = rw (same_bytes n) refl
number_among-nth (n ∷ ns) (suc i) h lt =
    rw (bytes_apart ns n (get_or ns i []) h.1 (nth_is_among ns i (omega arith)), number_among-nth ns i h.2 (omega arith)) (add-one i)

-- the first label of an instruction
label_is_among_by : (l : LabelDef) (ls : List LabelDef) (n : ℕ) (b : Bool) → (l.index == n) ≡ b → is_target (l ∷ ls) n ≡ true
    → (is_target ls n ≡ true → is_among (map (λ d. d.name) ls) (label_name ls n) ≡ true)
    → is_among (map (λ d. d.name) (l ∷ ls)) (label_name (l ∷ ls) n) ≡ true
label_is_among_by l ls n true e h ih =
    let same : label_name (l ∷ ls) n ≡ l.name = rw e refl in
    subst (λ w. is_among (map (λ (d : LabelDef). d.name) (l ∷ ls)) w ≡ true) (sym same) (or_left (bytes_eq l.name l.name) _ (same_bytes l.name))
label_is_among_by l ls n false e h ih =
    let k = rw e at h in
    let same : label_name (l ∷ ls) n ≡ label_name ls n = rw e refl in
    subst (λ w. is_among (map (λ (d : LabelDef). d.name) (l ∷ ls)) w ≡ true) (sym same) (or_right (bytes_eq l.name (label_name ls n)) _ (ih k))

pub label_is_among : (labels : List LabelDef) (n : ℕ) → is_target labels n ≡ true → is_among (map (λ d. d.name) labels) (label_name labels n) ≡ true
label_is_among [] n h = absurd (cc h)
label_is_among (l ∷ ls) n h = label_is_among_by l ls n (l.index == n) refl h (label_is_among ls n)

label_is_name_by : (l : LabelDef) (ls : List LabelDef) (n : ℕ) (b : Bool) → (l.index == n) ≡ b → is_target (l ∷ ls) n ≡ true → is_name l.name ≡ true
    → (is_target ls n ≡ true → is_name (label_name ls n) ≡ true) → is_name (label_name (l ∷ ls) n) ≡ true
label_is_name_by l ls n true e h name ih = rw e name
label_is_name_by l ls n false e h name ih = let k = rw e at h in rw e (ih k)

pub label_is_name : (labels : List LabelDef) (n : ℕ) → AreNames (map (λ d. d.name) labels) → is_target labels n ≡ true → is_name (label_name labels n) ≡ true
label_is_name [] n names h = absurd (cc h)
label_is_name (l ∷ ls) n names h = label_is_name_by l ls n (l.index == n) refl h names.0 (label_is_name ls n names.2)

target_among_by : (l : LabelDef) (ls : List LabelDef) (n : ℕ) (b : Bool)
    → (l.index == n) ≡ b → AreNames (map (λ d. d.name) (l ∷ ls)) → is_target (l ∷ ls) n ≡ true
    → (is_target ls n ≡ true → target_among ls (label_name ls n) ≡ n) → target_among (l ∷ ls) (label_name (l ∷ ls) n) ≡ n
target_among_by l ls n true e names h ih =
    let same : label_name (l ∷ ls) n ≡ l.name = rw e refl in
    let found : target_among (l ∷ ls) l.name ≡ n = rw (same_bytes l.name) (eqb-true l.index n e) in
    subst (λ w. target_among (l ∷ ls) w ≡ n) (sym same) found
target_among_by l ls n false e names h ih =
    let k = rw e at h in
    let same : label_name (l ∷ ls) n ≡ label_name ls n = rw e refl in
    let apart = bytes_apart (map (λ (d : LabelDef). d.name) ls) l.name (label_name ls n) names.1 (label_is_among ls n k) in
    let found : target_among (l ∷ ls) (label_name ls n) ≡ n = rw apart (ih k) in
    subst (λ w. target_among (l ∷ ls) w ≡ n) (sym same) found

pub target_among-label : (labels : List LabelDef) (n : ℕ) → AreNames (map (λ d. d.name) labels) → is_target labels n ≡ true
    → target_among labels (label_name labels n) ≡ n
target_among-label [] n names h = absurd (cc h)
target_among-label (l ∷ ls) n names h = target_among_by l ls n (l.index == n) refl names h (target_among-label ls n names.2)

-- names before others, and a name after others
not_among_front : (xs ys : List (List ℕ)) (name : List ℕ) → is_among (xs ++ ys) name ≡ false → is_among xs name ≡ false
not_among_front [] ys name h = refl
not_among_front (x ∷ xs) ys name h =
    let parts = or_parts (bytes_eq x name) (is_among (xs ++ ys) name) h in rw parts.0 (not_among_front xs ys name parts.1)

pub AreNames-front : (xs ys : List (List ℕ)) → AreNames (xs ++ ys) → AreNames xs
AreNames-front [] ys h = tt
AreNames-front (x ∷ xs) ys h = (h.0, not_among_front xs ys x h.1, AreNames-front xs ys h.2)

pub name_after : (xs : List (List ℕ)) (name : List ℕ) (ys : List (List ℕ)) → AreNames (xs ++ name ∷ ys) → is_name name ≡ true
name_after [] name ys h = h.0
name_after (x ∷ xs) name ys h = name_after xs name ys h.2

after_apart : (x : List ℕ) (xs : List (List ℕ)) (name : List ℕ) (ys : List (List ℕ)) → is_among (xs ++ name ∷ ys) x ≡ false → bytes_eq x name ≡ false
after_apart x [] name ys h =
    let e : bytes_eq name x ≡ false = (or_parts (bytes_eq name x) (is_among ys x) h).0 in
    false_from_ne_true (bytes_eq x name) (λ t. let same : x ≡ name = (bytes_eq-Decides x name).0 t in
    let yes : bytes_eq name x ≡ true = (bytes_eq-Decides name x).1 (sym same) in both_ways (bytes_eq name x) e yes)
after_apart x (v ∷ xs) name ys h = after_apart x xs name ys (or_parts (bytes_eq v x) (is_among (xs ++ name ∷ ys) x) h).1

pub new_after : (xs : List (List ℕ)) (name : List ℕ) (ys : List (List ℕ)) → AreNames (xs ++ name ∷ ys) → is_among xs name ≡ false
new_after [] name ys h = refl
new_after (x ∷ xs) name ys h = rw (after_apart x xs name ys h.1) (new_after xs name ys h.2)
