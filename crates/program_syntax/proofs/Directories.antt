-- Look-ups of names in a directory.
use Rattle.std.proofs.Common.{◌≡◌, ℕ, ◌+◌, ◌<◌, Bool, true, false, cond, if◌then◌else◌, List, [], ◌∷◌}
use Rattle.std.proofs.Common.{◌++◌, length, map, refl, ap, ◌∙◌, sym, arith, Option, Some, None}
use Rattle.std.specs.List.{AllByRecursion}
use Rattle.std.specs.Str.{bytes_eq}
use Rattle.std.specs.BTreeMap.{BTreeMap, get, Updates}
use Rattle.std.specs.Cmp.Lexicographic.{slice_cmp}
use Rattle.std.specs.Ordering.{nat_cmp, is_eq}
use Rattle.std.proofs.lemmas.Cmp.{same_from_slice_cmp}
use Rattle.std.proofs.lemmas.Bool.{or_from, false_from_ne_true}
use Rattle.std.proofs.lemmas.Bool.Decides.{nat_tests}
use Rattle.std.proofs.lemmas.Slice.Eq.{bytes_eq-Decides}
use Rattle.std.proofs.lemmas.List.{map-append}
use Rattle.plain_monitor.proofs.Lists.{all_push}
use Rattle.object_program.specs.Name.{is_name}
use Rattle.program_syntax.specs.Reading.{number_among}
use Rattle.object_program.specs.Valid.{is_among}
use Rattle.program_syntax.proofs.AllowedNames.{number_among-lt}
use Rattle.program_syntax.specs.Directory.{IsPlace}
use Rattle.program_syntax.specs.inner.Places.{place_from, ArePlaces}

-- a word that isn't a name stands among no names
pub not_among : (names : List (List ℕ)) (word : List ℕ) → AllByRecursion (λ n. is_name n ≡ true) names → is_name word ≡ false → is_among names word ≡ false
not_among [] word all other = refl
not_among (n ∷ ns) word all other =
    let differ : bytes_eq n word ≡ false =
    false_from_ne_true _ (λ e. let same : n ≡ word = (bytes_eq-Decides n word).0 e in let name = all.0 in absurd (cc (same, name, other))) in
    or_from _ _ differ (not_among ns word all.1 other)

-- a name that isn't there has all before it
absent_at : (n : List ℕ) (ns : List (List ℕ)) (name : List ℕ) (b : Bool) → bytes_eq n name ≡ b → is_among (n ∷ ns) name ≡ false
    → (is_among ns name ≡ false → number_among ns name ≡ length ns) → number_among (n ∷ ns) name ≡ length (n ∷ ns)
absent_at n ns name true e absent ih = absurd (cc (rw e at absent))
absent_at n ns name false e absent ih = rw e (let rest = ih (rw e at absent) in omega arith)

pub number_among-absent : (names : List (List ℕ)) (name : List ℕ) → is_among names name ≡ false → number_among names name ≡ length names
number_among-absent [] name absent = refl
number_among-absent (n ∷ ns) name absent = absent_at n ns name (bytes_eq n name) refl absent (number_among-absent ns name)

-- the place of a name by number_among
place_at : (x : List ℕ) (xs : List (List ℕ)) (name : List ℕ) (k : ℕ) (b : Bool) → bytes_eq x name ≡ b
    → ((k : ℕ) → place_from k xs name ≡ (if is_among xs name then Some (number_among xs name + k) else None))
    → place_from k (x ∷ xs) name ≡ (if is_among (x ∷ xs) name then Some (number_among (x ∷ xs) name + k) else None)
place_at x xs name k true e ih = rw e (ap Some (omega arith))
place_at x xs name k false e ih =
    rw e (ih (k + 1) ∙ ap (λ n. if is_among xs name then Some n else None) (omega arith))

place_from_is : (k : ℕ) (xs : List (List ℕ)) (name : List ℕ) → place_from k xs name ≡ (if is_among xs name then Some (number_among xs name + k) else None)
place_from_is k [] name = refl
place_from_is k (x ∷ xs) name = place_at x xs name k (bytes_eq x name) refl (λ k. place_from_is k xs name)

place_by : (xs : List (List ℕ)) (name : List ℕ) (r : Option ℕ) (b : Bool) → is_among xs name ≡ b → r ≡ (if b then Some (number_among xs name + 0) else None)
    → (is_among xs name ≡ true → number_among xs name < length xs) → IsPlace xs name r
place_by xs name None true e h ih = absurd (cc h)
place_by xs name (Some n) true e h ih = let k = ih e in (e, grind arith, grind arith)
place_by xs name None false e h ih = e
place_by xs name (Some n) false e h ih = absurd (cc h)

pub place_is : (xs : List (List ℕ)) (name : List ℕ) (r : Option ℕ) → r ≡ place_from 0 xs name → IsPlace xs name r
place_is xs name r h = place_by xs name r (is_among xs name) refl (h ∙ place_from_is 0 xs name) (number_among-lt xs name)

-- one more name at the end
push_at : (x y : List ℕ) (xs : List (List ℕ)) (name : List ℕ) (k : ℕ) (b : Bool) → bytes_eq x name ≡ b
    → ((k : ℕ) → place_from k (xs ++ y ∷ []) name ≡ (if is_among xs name then place_from k xs name else if bytes_eq y name then Some (k + length xs) else None))
    → place_from k (x ∷ xs ++ y ∷ []) name
    ≡ (if is_among (x ∷ xs) name then place_from k (x ∷ xs) name else if bytes_eq y name then Some (k + length (x ∷ xs)) else None)
push_at x y xs name k true e ih = rw e refl
push_at x y xs name k false e ih =
    rw e (ih (k + 1) ∙ ap (λ n. if is_among xs name then place_from (k + 1) xs name else if bytes_eq y name then Some n else None) (omega arith))

place_from-push : (k : ℕ) (xs : List (List ℕ)) (y name : List ℕ)
    → place_from k (xs ++ y ∷ []) name ≡ (if is_among xs name then place_from k xs name else if bytes_eq y name then Some (k + length xs) else None)
place_from-push k [] y name = ap (λ n. if bytes_eq y name then Some n else None) (omega arith)
place_from-push k (x ∷ xs) y name = push_at x y xs name k (bytes_eq x name) refl (λ k. place_from-push k xs y name)

-- two names are equal in the order of names just where their bytes are
same_name : (x y : List ℕ) → is_eq (slice_cmp nat_cmp x y) ≡ bytes_eq x y
same_name x y = same_from_slice_cmp nat_cmp is_eq bytes_eq refl (λ _ _. refl)
    (λ _ _. refl) (λ x y xs ys o h. grind (arith, nat_tests)) x y (slice_cmp nat_cmp x y) refl

-- a name that is there already leaves the places as they are
among_kept : (xs : List (List ℕ)) (y name : List ℕ) (b : Bool) (c : Bool) → is_among xs name ≡ b → bytes_eq y name ≡ c → is_among xs y ≡ true
    → place_from 0 xs name ≡ (if is_among xs name then place_from 0 xs name else if bytes_eq y name then Some (0 + length xs) else None)
among_kept xs y name true c e f there = rw e refl
among_kept xs y name false true e f there =
    let same : y ≡ name = (bytes_eq-Decides y name).0 f in absurd (cc (same, e, there))
among_kept xs y name false false e f there = rw (e, f) (place_from_is 0 xs name ∙ rw e refl)

pub ArePlaces-again : (xs : List (List ℕ)) (y : List ℕ) (places : BTreeMap (List ℕ) ℕ) → ArePlaces xs places → is_name y ≡ true → is_among xs y ≡ true
    → ArePlaces (xs ++ y ∷ []) places
ArePlaces-again xs y places h here there = record {
  are_names = all_push _ xs y h.are_names here;
  found = λ name. h.found name ∙ among_kept xs y name (is_among xs name) (bytes_eq y name) refl refl there ∙ sym (place_from-push 0 xs y name);
}

new_place : (xs : List (List ℕ)) (y name : List ℕ) (b c : Bool) → is_among xs name ≡ b → bytes_eq y name ≡ c → is_among xs y ≡ false
    → cond (bytes_eq y name) (Some (length xs)) (place_from 0 xs name)
    ≡ (if is_among xs name then place_from 0 xs name else if bytes_eq y name then Some (0 + length xs) else None)
new_place xs y name true true e f new = let same : y ≡ name = (bytes_eq-Decides y name).0 f in absurd (cc (same, e, new))
new_place xs y name true false e f new = rw (e, f) refl
new_place xs y name false true e f new = rw (e, f) (ap Some (omega arith))
new_place xs y name false false e f new = rw (e, f) (place_from_is 0 xs name ∙ rw e refl)

pub ArePlaces-new : (xs : List (List ℕ)) (y : List ℕ) (places after : BTreeMap (List ℕ) ℕ) → ArePlaces xs places → is_name y ≡ true → is_among xs y ≡ false
    → Updates (slice_cmp nat_cmp) places after y (Some (length xs)) → ArePlaces (xs ++ y ∷ []) after
ArePlaces-new xs y places after h here new updates = record {
  are_names = all_push _ xs y h.are_names here;
  found = λ name.
      updates.0 name ∙ ap (λ b. cond b (Some (length xs)) (get (slice_cmp nat_cmp) places name)) (same_name y name)
      ∙ ap (λ o. cond (bytes_eq y name) (Some (length xs)) o) (h.found name)
      ∙ new_place xs y name (is_among xs name) (bytes_eq y name) refl refl new ∙ sym (place_from-push 0 xs y name);
}

-- the names of items with one more at the end
pub names-push : {X : Type 0} (f : X → List ℕ) (xs ys : List X) (x : X) → ys ≡ xs ++ x ∷ [] → map f ys ≡ map f xs ++ f x ∷ []
names-push f xs ys x e = rw (e, map-append) refl
