-- What the marks of objects say of their hash entries.
use Rattle.std.proofs.Common.{◌≡◌, ℕ, ◌+◌, ◌≤◌, ◌==◌, ◌&&◌, ◌||◌, ◌⊎◌, Bool, true, false, not, if◌then◌else◌}
use Rattle.std.proofs.Common.{List, [], ◌∷◌, ◌++◌, refl, ◌∙◌, arith, inl, inr, Option, Some, None}
use Rattle.std.specs.List.{list_all}
use Rattle.std.proofs.lemmas.Bool.{and_parts}
use Rattle.std.proofs.lemmas.Bool.Decides.{nat_tests}
use Rattle.std.proofs.lemmas.List.Folds.{list_all-append}
use Rattle.lock_journal.specs.Hashes.{all_same, has_none}
use Rattle.bias_check.specs.declared.hashes.Mark.{Mark}
use Rattle.bias_check.specs.declared.hashes.Mark.TheVariants.{Unseen, Undrawn, Drawn, Bad}
use Rattle.bias_check.specs.inner.Marks.{first_mark, second_mark, marked, is_bad}

-- the values of an object's hash entries, how many have a draw, and whether each draw is right, by the object's mark
abbrev pub IsMark : List ℕ → ℕ → Bool → Mark → Type 0
IsMark values draws right Unseen = (values ≡ []) × (draws ≡ 0) × (right ≡ true)
IsMark values draws right (Undrawn v) = (has_none values ≡ false) × (list_all (λ w. v == w) values ≡ true) × (draws ≡ 0) × (right ≡ true)
IsMark values draws right (Drawn v) = (has_none values ≡ false) × (list_all (λ w. v == w) values ≡ true) × (draws ≡ 1) × (right ≡ true)
IsMark values draws right Bad = (has_none values ≡ false) × ((all_same values ≡ false) ⊎ ((2 ≤ draws) ⊎ (right ≡ false)))

abbrev pub draw_count : Option Bool → ℕ
draw_count None = 0
draw_count (Some b) = 1

abbrev pub draw_right : Option Bool → Bool
draw_right None = true
draw_right (Some b) = b

-- one more value
some_push : (values : List ℕ) (v : ℕ) → has_none (values ++ v ∷ []) ≡ false
some_push [] v = refl
some_push (w ∷ ws) v = refl

same_push : (p : ℕ → Bool) (values : List ℕ) (v : ℕ) → list_all p values ≡ true → p v ≡ true → list_all p (values ++ v ∷ []) ≡ true
same_push p values v h k = list_all-append p values (v ∷ []) ∙ rw (h, k) refl

and_no : (b : Bool) → (b && false) ≡ false
and_no true = refl
and_no false = refl

other_push : (p : ℕ → Bool) (values : List ℕ) (v : ℕ) → p v ≡ false → list_all p (values ++ v ∷ []) ≡ false
other_push p values v k = list_all-append p values (v ∷ []) ∙ rw k (and_no (list_all p values))

-- another value than the others
differ_push : (values : List ℕ) (v w : ℕ) → has_none values ≡ false
    → list_all (λ u. v == u) values ≡ true → (v == w) ≡ false → all_same (values ++ w ∷ []) ≡ false
differ_push [] v w h k e = absurd (cc h)
differ_push (u ∷ us) v w h k e =
    let parts = and_parts (v == u) (list_all (λ u. v == u) us) k in
    let same : v ≡ u = let here = parts.0 in grind (arith, nat_tests) in
    other_push (λ x. u == x) us w (rw (← same) e)

stays_apart : (values : List ℕ) (w : ℕ) → all_same values ≡ false → all_same (values ++ w ∷ []) ≡ false
stays_apart [] w h = absurd (cc h)
stays_apart (u ∷ us) w h = list_all-append (λ x. u == x) us (w ∷ []) ∙ rw h refl

first_push : (values : List ℕ) (draws : ℕ) (right : Bool) (v : ℕ) (drawn : Option Bool) → list_all (λ w. v == w) values ≡ true → draws ≡ 0 → right ≡ true
    → IsMark (values ++ v ∷ []) (draws + draw_count drawn) (right && draw_right drawn) (first_mark v drawn)
first_push values draws right v None all zero_is true_is =
    let here : (v == v) ≡ true = grind (arith, nat_tests) in
    (some_push values v, same_push (λ w. v == w) values v all here, omega (arith, zero_is), rw true_is refl)
first_push values draws right v (Some true) all zero_is true_is =
    let here : (v == v) ≡ true = grind (arith, nat_tests) in
    (some_push values v, same_push (λ w. v == w) values v all here, omega (arith, zero_is), rw true_is refl)
first_push values draws right v (Some false) all zero_is true_is =
    (some_push values v, inr (inr (and_no right)))

again_by : (values : List ℕ) (draws : ℕ) (right : Bool) (v w : ℕ) (drawn : Option Bool) (b : Bool) → (v == w) ≡ b → IsMark values draws right (Undrawn v)
    → IsMark (values ++ w ∷ []) (draws + draw_count drawn) (right && draw_right drawn) (if b then first_mark w drawn else Bad)
again_by values draws right v w drawn true e h =
    let same : v ≡ w = grind (arith, nat_tests) in
    first_push values draws right w drawn (rw (← same) h.1) h.2 h.3
again_by values draws right v w drawn false e h = (some_push values w, inl (differ_push values v w h.0 h.1 e))

drawn_by : (values : List ℕ) (draws : ℕ) (right : Bool) (v w : ℕ) (drawn : Option Bool) (b : Bool) → (v == w) ≡ b → IsMark values draws right (Drawn v)
    → IsMark (values ++ w ∷ []) (draws + draw_count drawn) (right && draw_right drawn) (if b then second_mark v drawn else Bad)
drawn_by values draws right v w None true e h =
    (some_push values w, same_push (λ u. v == u) values w h.1 e, omega (arith, h.2), rw h.3 refl)
drawn_by values draws right v w (Some d) true e h = (some_push values w, inr (inl (omega (arith, h.2))))
drawn_by values draws right v w drawn false e h = (some_push values w, inl (differ_push values v w h.0 h.1 e))

bad_push : (values : List ℕ) (draws : ℕ) (right : Bool) (w : ℕ) (drawn : Option Bool) → IsMark values draws right Bad
    → IsMark (values ++ w ∷ []) (draws + draw_count drawn) (right && draw_right drawn) Bad
bad_push values draws right w drawn h = (some_push values w, by_why h.1)
  where
    by_why : ((all_same values ≡ false) ⊎ ((2 ≤ draws) ⊎ (right ≡ false)))
        → ((all_same (values ++ w ∷ []) ≡ false) ⊎ ((2 ≤ draws + draw_count drawn) ⊎ ((right && draw_right drawn) ≡ false)))
    by_why (inl apart) = inl (stays_apart values w apart)
    by_why (inr (inl many)) = inr (inl (omega (arith, many)))
    by_why (inr (inr wrong)) = inr (inr (rw wrong refl))

-- the mark after one more hash entry
pub mark_push : (values : List ℕ) (draws : ℕ) (right : Bool) (mark : Mark) (v : ℕ) (drawn : Option Bool) → IsMark values draws right mark
    → IsMark (values ++ v ∷ []) (draws + draw_count drawn) (right && draw_right drawn) (marked mark v drawn)
mark_push values draws right Unseen v drawn h = first_push values draws right v drawn (rw h.0 refl) h.1 h.2
mark_push values draws right (Undrawn w) v drawn h = again_by values draws right w v drawn (w == v) refl h
mark_push values draws right (Drawn w) v drawn h = drawn_by values draws right w v drawn (w == v) refl h
mark_push values draws right Bad v drawn h = bad_push values draws right v drawn h

-- values that are all one
one_value : (values : List ℕ) (v : ℕ) → list_all (λ w. v == w) values ≡ true → all_same values ≡ true
one_value [] v h = refl
one_value (u ∷ us) v h =
    let parts = and_parts (v == u) (list_all (λ u. v == u) us) h in
    let same : v ≡ u = let here = parts.0 in grind (arith, nat_tests) in
    rw same at parts.1

abbrev pub fitting : List ℕ → ℕ → Bool → Bool
fitting values draws right = has_none values || (all_same values && (draws == 1) && right)

unfit : (a b c : Bool) → (a ≡ false) ⊎ ((b ≡ false) ⊎ (c ≡ false)) → (a && b && c) ≡ false
unfit false b c h = refl
unfit true false c h = refl
unfit true true false h = refl
unfit true true true (inl h) = h
unfit true true true (inr (inl h)) = h
unfit true true true (inr (inr h)) = h

-- the mark tells whether the hashes fit
pub mark_tells : (values : List ℕ) (draws : ℕ) (right : Bool) (mark : Mark) → IsMark values draws right mark → fitting values draws right ≡ not (is_bad mark)
mark_tells values draws right Unseen h = rw h.0 refl
mark_tells values draws right (Undrawn v) h =
    let none : (draws == 1) ≡ false = let is = h.2 in grind (arith, nat_tests) in
    rw h.0 (unfit (all_same values) (draws == 1) right (inr (inl none)))
mark_tells values draws right (Drawn v) h =
    let one : (draws == 1) ≡ true = let is = h.2 in grind (arith, nat_tests) in
    rw (h.0, one_value values v h.1, one, h.3) refl
mark_tells values draws right Bad h = rw h.0 (unfit (all_same values) (draws == 1) right (by_why h.1))
  where
    by_why : ((all_same values ≡ false) ⊎ ((2 ≤ draws) ⊎ (right ≡ false))) → ((all_same values ≡ false) ⊎ (((draws == 1) ≡ false) ⊎ (right ≡ false)))
    by_why (inl apart) = inl apart
    by_why (inr (inl many)) = inr (inl (grind (arith, nat_tests)))
    by_why (inr (inr wrong)) = inr (inr wrong)
