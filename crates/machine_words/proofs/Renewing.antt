-- Objects that are as at first are passed over.
use Rattle.std.proofs.Common.{◌≡◌, ℕ, ◌+◌, ◌-◌, ◌<◌, ◌≤◌, ◌==◌, if◌then◌else◌, Bool, true, false, List, [], ◌∷◌, length}
use Rattle.std.proofs.Common.{map, drop, slice_get, option_map, is_some, Some, refl, sym, ap, ◌∙◌, arith, eq-eqb}
use Rattle.std.proofs.lemmas.Bool.Decides.{nat_tests}
use Rattle.std.proofs.lemmas.Option.{same_Some, slice_get-map}
use Rattle.plain_monitor.specs.Made.{Numbering, first_made, class_if_there, is_there}
use Rattle.plain_monitor.specs.Objects.{PlainObject}
use Rattle.machine_words.specs.ObjectWords.{is_new, objects_words, begins, after_one, read_object}
use Rattle.machine_words.specs.inner.Reading.{Walks, renewed, renew_step, object_step, after_row}
use Rattle.machine_words.proofs.ReadObjects.{new_is}
use Rattle.machine_words.proofs.There.{there_has_class, row_ends, not_declared, row_after}
use Rattle.machine_words.proofs.Jumps.{walks_on, left_at}
use Rattle.machine_words.proofs.Writing.{objects_skip}

-- each object that isn't there is as at first
abbrev pub AreNew : Numbering → List (List ℕ) → List PlainObject → Type 0
AreNew n made objects = (o : ℕ) (x : PlainObject) → slice_get objects o ≡ Some x → is_there n made o ≡ false → is_new x ≡ true

pub is_not_there : (n : Numbering) (made : List (List ℕ)) (o : ℕ) → is_some (class_if_there n made o) ≡ false → is_there n made o ≡ false
is_not_there n made o none = sym (there_has_class n made o) ∙ none

-- past the numbers of a thread that has made no more objects
pub renew_jump : (n : Numbering) (made : List (List ℕ)) (first : List PlainObject) (o : ℕ) (objects : List PlainObject) → AreNew n made first
    → is_some (class_if_there n made o) ≡ false → Walks renew_step first [] o objects [] → Walks renew_step first [] (after_row (first_made n) o) objects []
renew_jump n made first o objects new none h =
    let unthere = is_not_there n made o none in
    let ahead = row_after (first_made n) o (not_declared n made o unthere) in
    walks_on (after_row (first_made n) o) h (omega (arith, ahead)) (λ j x le lt at.
    let as_at_first = new j x (sym (left_at h j le) ∙ at) (row_ends n made o j unthere le lt) in
    ap (λ (y : PlainObject). (y, [])) (sym (new_is (length x.slots) x refl as_at_first)))

-- no words are written of them
pub words_jump : (n : Numbering) (made : List (List ℕ)) (objects : List PlainObject) (o : ℕ) → AreNew n made objects → is_some (class_if_there n made o) ≡ false
    → objects_words o (drop o objects) ≡ objects_words (after_row (first_made n) o) (drop (after_row (first_made n) o) objects)
words_jump n made objects o new none =
    let unthere = is_not_there n made o none in
    let ahead = row_after (first_made n) o (not_declared n made o unthere) in
    let way : ℕ = after_row (first_made n) o - o in
    let whole : o + way ≡ after_row (first_made n) o = omega (arith, ahead) in
    objects_skip objects way o (λ j x le lt at. new j x at (row_ends n made o j unthere le (omega (arith, lt, whole))))
    ∙ ap (λ (j : ℕ). objects_words j (drop j objects)) whole

renewed_at : (xs : List PlainObject) (j : ℕ) (x : PlainObject) → xs ≡ map renewed xs → slice_get xs j ≡ Some x → renewed x ≡ x
renewed_at xs j x new at =
    same_Some (renewed x) x
    (sym (ap (option_map renewed) at) ∙ sym (slice_get-map renewed xs j) ∙ ap (λ (ys : List PlainObject). slice_get ys j) (sym new) ∙ at)

-- nor read, where the words go on with a later one, or end
pub read_jump : {first objects : List PlainObject} {words rest : List ℕ} {k : ℕ} (o : ℕ) → first ≡ map renewed first → k ≤ o
    → ((j : ℕ) → j < o → begins j rest ≡ false) → Walks object_step first words k objects rest → Walks object_step first words o objects rest
read_jump {first = first} {rest = rest} o new le later h =
    walks_on o h le (λ j x from lt at.
    ap (λ (b : Bool). if b then read_object (length x.slots) (after_one rest) else (renewed x, rest)) (later j lt)
    ∙ ap (λ (y : PlainObject). (y, rest)) (renewed_at first j x new (sym (left_at h j from) ∙ at)))

pub begins_here : (w : ℕ) (rest after : List ℕ) → rest ≡ w ∷ after → begins w rest ≡ true
begins_here w rest after is = ap (begins w) is ∙ eq-eqb w w refl

pub begins_later : (w j : ℕ) (rest after : List ℕ) → rest ≡ w ∷ after → j < w → begins j rest ≡ false
begins_later w j rest after is lt = let other : (w == j) ≡ false = grind (arith, nat_tests, lt) in ap (begins j) is ∙ other

pub step_reads : (w : ℕ) (x : PlainObject) (rest : List ℕ) → begins w rest ≡ true → read_object (length x.slots) (after_one rest) ≡ object_step w x rest
step_reads w x rest here = ap (λ (b : Bool). if b then read_object (length x.slots) (after_one rest) else (renewed x, rest)) (sym here)
