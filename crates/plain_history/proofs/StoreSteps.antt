-- The store of two states takes an entry exactly where both states do, and is then the store of what they are after it.
use Rattle.std.proofs.Common.{◌≡◌, ◌≢◌, ℕ, zero, suc, ◌+◌, ◌-◌, ◌*◌, ◌/◌, ◌<◌, ◌≤◌, Bool, true, false, not, ◌&&◌, ◌||◌, ◌==◌, nat_lt, cond, List}
use Rattle.std.proofs.Common.{[], ◌∷◌, ◌++◌, map, replicate, length, slice_get, slice_index, slice_set, Option, Some, None, is_some, option_map}
use Rattle.std.proofs.Common.{option_and_then, refl, ap, sym, ◌∙◌, subst, arith, inl, inr, length-append, length-set, get_or-set_same}
use Rattle.std.proofs.lemmas.Bool.{cases_eq, cases_lt}
use Rattle.std.proofs.lemmas.Bool.Decides.{nat_tests}
use Rattle.std.proofs.lemmas.List.{length-map, length-replicate}
use Rattle.std.proofs.lemmas.Option.{cond_some, same_Some, none-some, slice_get-map, slice_get_past, get_or_from_slice_get}
use Rattle.plain_monitor.specs.Limits.{most_made}
use Rattle.plain_monitor.specs.declared.entry.Entry.{Entry}
use Rattle.plain_monitor.specs.declared.entry.Logged.{Logged}
use Rattle.plain_monitor.specs.Monitor.{only_if}
use Rattle.plain_monitor.specs.Objects.{PlainObject, new_object, new_objects, named, take_at, take_named, take_entry}
use Rattle.plain_monitor.specs.Order.{order}
use Rattle.plain_monitor.specs.History.{run_all, objects_after}
use Rattle.plain_monitor.specs.Made.{Numbering, first_made, made_number, maker_of, place_of, made_by, class_if_there, is_there, creates}
use Rattle.plain_monitor.specs.Made.{needs, one_or_none, hands_on, may_create, take_created, take_made, nothing_made, made_after}
use Rattle.plain_monitor.proofs.Lists.{get_set_other}
use Rattle.plain_history.specs.Store.{ObjectStore, object_in, has_object, with_object, act_on, may_make, with_new, store_after, take_in_store}
use Rattle.plain_history.specs.Store.{declared_objects, new_store, store_after_all, HasPlaces, with_classes, store_of, store_of_both}
use Rattle.plain_history.proofs.Swaps.{taken_at}
use Rattle.plain_history.proofs.MadeSteps.{grown, row_same, row_other, number_of, all_there, both_hold, MayCreate, creating, maker_of_new}
use Rattle.plain_history.proofs.MadeHistories.{there_stays, new_wasnt}
use Rattle.plain_history.proofs.NotThere.{creates_unnamed, named_there}
use Rattle.plain_history.proofs.StoreParts.{get_classes, past_classes, set_classes, class_comes, there_has_class}
use Rattle.plain_history.proofs.StoreParts.{mapped_some, some_class, all_alike, count_is, counts_set, row_past}

-- what holds of two states that have taken the same entries
pub record GoTogether (n : Numbering) (shape : List (ℕ × ℕ)) (made : List (List ℕ)) (objects : List PlainObject) : Type 0 where
  pub rows : length made ≡ n.threads
  pub few : (u : ℕ) → length (made_by made u) ≤ most_made
  pub all : length objects ≡ length shape
  pub new : (o : ℕ) → is_there n made o ≡ false → slice_get objects o ≡ slice_get (new_objects shape) o

-- what stands within a list
get_within : {X : Type 0} (xs : List X) (k : ℕ) → k < length xs → (x : X) × (slice_get xs k ≡ Some x)
get_within [] k h = absurd (omega (arith, h))
get_within (x ∷ xs) zero h = (x, refl)
get_within (x ∷ xs) (suc k) h = get_within xs k (omega (arith, h))

-- NUMBERS. What is made has a place.
no_place : (k : ℕ) (row : List ℕ) → row ≡ [] → nat_lt k (length row) ≡ true → ⊥
no_place k row e a = let z : nat_lt k 0 ≡ true = subst (λ (r : List ℕ). nat_lt k (length r) ≡ true) e a in grind (arith, nat_tests, z)

by_row : (made : List (List ℕ)) (u k : ℕ) → nat_lt k (length (made_by made u)) ≡ true → u < length made
by_row made u k a =
    elim (cases_lt u (length made)) [
      | inl b ↦ b
      | inr b ↦ absurd (no_place k (made_by made u) (row_past made u b) a)
    ]

within_places : (first o threads all : ℕ) → first ≤ o → (o - first) / most_made < threads → all ≡ first + most_made * threads → o < all
within_places first o threads all a b c = omega (arith, a, b, c)

there_within : (n : Numbering) (slots : ℕ) (shape : List (ℕ × ℕ)) (made : List (List ℕ)) (o : ℕ)
    → HasPlaces n slots shape → length made ≡ n.threads → is_there n made o ≡ true
    → o < length shape
there_within n slots shape made o places rows h = by_test (nat_lt o (first_made n)) refl h
  where
    by_test : (b : Bool) → nat_lt o (first_made n) ≡ b → (b || nat_lt (place_of n o) (length (made_by made (maker_of n o)))) ≡ true → o < length shape
    by_test true e g = let all = places.all in grind (arith, nat_tests, e, all)
    by_test false e g =
        let maker : maker_of n o < length made = by_row made (maker_of n o) (place_of n o) g in
        let late : first_made n ≤ o = grind (arith, nat_tests, e) in
        within_places (first_made n) o n.threads (length shape) late (subst (λ k. maker_of n o < k) rows maker) places.all

-- CLASSES. The new object has its class, and all others have the classes that they had.
get_last : (xs : List ℕ) (c : ℕ) → slice_get (xs ++ c ∷ []) (length xs) ≡ Some c
get_last [] c = refl
get_last (x ∷ xs) c = get_last xs c

get_before_last : (xs : List ℕ) (k c : ℕ) → k ≢ length xs → slice_get (xs ++ c ∷ []) k ≡ slice_get xs k
get_before_last [] zero c d = absurd (d refl)
get_before_last [] (suc k) c d = refl
get_before_last (x ∷ xs) zero c d = refl
get_before_last (x ∷ xs) (suc k) c d = get_before_last xs k c (λ e. d (ap suc e))

own_row : (made : List (List ℕ)) (t c : ℕ) → t < length made → made_by (grown made t c) t ≡ made_by made t ++ c ∷ []
own_row made t c h = get_or-set_same made t (made_by made t ++ c ∷ []) [] h

class_new : (n : Numbering) (made : List (List ℕ)) (t : ℕ) (p : ℕ × ℕ) → MayCreate n made t p → class_if_there n (grown made t p.1) p.0 ≡ Some p.1
class_new n made t p m =
    let is = maker_of_new (first_made n) t (length (made_by made t)) p.0 m.room m.number in
    let late : nat_lt p.0 (first_made n) ≡ false = let a = is.2 in grind (arith, nat_tests, a) in
    let here : slice_get (made_by (grown made t p.1) (maker_of n p.0)) (place_of n p.0) ≡ slice_get (made_by (grown made t p.1) t) (length (made_by made t)) =
    ap (λ u. slice_get (made_by (grown made t p.1) u) (place_of n p.0)) is.0 ∙ ap (slice_get (made_by (grown made t p.1) t)) is.1 in
    let last : slice_get (made_by (grown made t p.1) t) (length (made_by made t)) ≡ Some p.1 =
    ap (λ (r : List ℕ). slice_get r (length (made_by made t))) (own_row made t p.1 m.thread) ∙ get_last (made_by made t) p.1 in
    ap (λ b. cond b (slice_get n.declared p.0) (slice_get (made_by (grown made t p.1) (maker_of n p.0)) (place_of n p.0))) late ∙ here ∙ last

class_other : (n : Numbering) (made : List (List ℕ)) (t : ℕ) (p : ℕ × ℕ) (i : ℕ)
    → MayCreate n made t p → i ≢ p.0 → class_if_there n (grown made t p.1) i ≡ class_if_there n made i
class_other n made t p i m d = by_test (nat_lt i (first_made n)) refl
  where
    own : maker_of n i ≡ t → first_made n ≤ i
        → slice_get (made_by (grown made t p.1) (maker_of n i)) (place_of n i) ≡ slice_get (made_by made (maker_of n i)) (place_of n i)
    own e late =
        let other : place_of n i ≢ length (made_by made t) = λ k. d (number_of (first_made n) i t (length (made_by made t)) late e k ∙ sym m.number) in
        ap (λ u. slice_get (made_by (grown made t p.1) u) (place_of n i)) e
        ∙ ap (λ (r : List ℕ). slice_get r (place_of n i)) (own_row made t p.1 m.thread)
        ∙ get_before_last (made_by made t) (place_of n i) p.1 other
        ∙ ap (λ u. slice_get (made_by made u) (place_of n i)) (sym e)

    by_test : (b : Bool) → nat_lt i (first_made n) ≡ b
        → cond b (slice_get n.declared i) (slice_get (made_by (grown made t p.1) (maker_of n i)) (place_of n i))
        ≡ cond b (slice_get n.declared i) (slice_get (made_by made (maker_of n i)) (place_of n i))
    by_test true e = refl
    by_test false e = elim (cases_eq (maker_of n i) t) [
      | inl s ↦ own s (grind (arith, nat_tests, e))
      | inr s ↦ ap (λ (r : List ℕ). slice_get r (place_of n i)) (row_other made t p.1 (maker_of n i) s)
    ]

-- AN ENTRY that acts on an object that is there
module _ (n : Numbering) (made : List (List ℕ)) (objects : List PlainObject) (t : ℕ) (e : Entry) where
  acted : (o c : ℕ) (k : Option PlainObject) → class_if_there n made o ≡ Some c
      → option_map (λ y. with_object (store_of n made objects) o (c, y)) k ≡ store_of_both n (Some made) (option_map (λ y. slice_set objects o y) k)
  acted o c None h = refl
  acted o c (Some y) h =
      ap (λ xs. Some (record { objects = xs; made = (store_of n made objects).made })) (sym (set_classes (class_if_there n made) objects o c y h))

  acts : (o : ℕ) → is_there n made o ≡ true → act_on (store_of n made objects) t e (Some o) ≡ store_of_both n (Some made) (take_named objects t e (Some o))
  acts o there = by_place (slice_get objects o) refl
    where
      does : ℕ × PlainObject → Option ObjectStore
      does x = option_map (λ y. with_object (store_of n made objects) o (x.0, y)) (take_at x.1 t e)

      by_place : (m : Option PlainObject) → slice_get objects o ≡ m
          → option_and_then does (object_in (store_of n made objects) o)
          ≡ store_of_both n (Some made) (option_and_then (λ x. option_map (λ y. slice_set objects o y) (take_at x t e)) m)
      by_place None h = ap (option_and_then does) (past_classes (class_if_there n made) objects o h)
      by_place (Some x) h =
          let c = some_class (class_if_there n made o) (there_has_class n made o ∙ there) in
          let is : object_in (store_of n made objects) o ≡ Some (c.0, x) =
          get_classes (class_if_there n made) objects o x h ∙ ap (option_map {U = ℕ × PlainObject} (λ i. (i, x))) c.1 in
          ap (option_and_then does) is ∙ acted o c.0 (take_at x t e) c.1

  acts_on_named : (m : Option ℕ) → all_there n made (one_or_none m ++ hands_on e) ≡ true
      → act_on (store_of n made objects) t e m ≡ store_of_both n (Some made) (take_named objects t e m)
  acts_on_named None h = refl
  acts_on_named (Some o) h = acts o (both_hold (is_there n made o) (all_there n made (hands_on e)) h).0

module _ (n : Numbering) (slots : ℕ) (shape : List (ℕ × ℕ)) (places : HasPlaces n slots shape) where
  module _ (made : List (List ℕ)) (objects : List PlainObject) (fits : GoTogether n shape made objects) where
    -- the store has what is there
    has_is_there : (o : ℕ) → has_object (store_of n made objects) o ≡ is_there n made o
    has_is_there o = by_place (slice_get objects o) refl
      where
        past : slice_get objects o ≡ None → (b : Bool) → is_there n made o ≡ b → false ≡ b
        past h false e = refl
        past h true e =
            let within : o < length objects = let a = there_within n slots shape made o places fits.rows e in let b = fits.all in omega (arith, a, b) in
            let x = get_within objects o within in
            absurd (none-some x.0 (sym h ∙ x.1))

        by_place : (m : Option PlainObject) → slice_get objects o ≡ m → has_object (store_of n made objects) o ≡ is_there n made o
        by_place None h = ap (λ k. is_some k) (past_classes (class_if_there n made) objects o h) ∙ past h (is_there n made o) refl
        by_place (Some x) h =
            ap (λ k. is_some k) (get_classes (class_if_there n made) objects o x h)
            ∙ mapped_some (λ c. (c, x)) (class_if_there n made o) ∙ there_has_class n made o

    finds : (t : ℕ) (e : Entry) → store_after n slots (store_of n made objects) t e None
        ≡ store_of_both n (take_created n made t e None) (take_entry objects t e)
    finds t e =
        ap (λ b. cond b (act_on (store_of n made objects) t e (named e)) None)
        (all_alike (has_object (store_of n made objects)) (is_there n made) (needs e) has_is_there)
        ∙ by_test (all_there n made (needs e)) refl
      where
        by_test : (b : Bool) → all_there n made (needs e) ≡ b
            → cond b (act_on (store_of n made objects) t e (named e)) None ≡ store_of_both n (cond b (Some made) None) (take_entry objects t e)
        by_test false h = refl
        by_test true h = acts_on_named n made objects t e (named e) h

    -- a new object's place has what the store puts there
    new_there : (t : ℕ) (p : ℕ × ℕ) → MayCreate n made t p → slice_get objects p.0 ≡ Some (new_object slots)
    new_there t p m =
        let is = maker_of_new (first_made n) t (length (made_by made t)) p.0 m.room m.number in
        let wasnt = new_wasnt n made t p.0 is.2 is.0 is.1 in
        let within : p.0 < length shape = let a = m.thread in let b = fits.rows in let c = places.all in let d = m.room in let e = m.number in
        within_places (first_made n) p.0 n.threads (length shape) is.2 (subst (λ k. maker_of n p.0 < k) b (subst (λ k. k < length made) (sym is.0) a)) c in
        let s = get_within shape p.0 within in
        let size : s.0.1 ≡ slots = ap (λ (x : ℕ × ℕ). x.1) (sym (get_or_from_slice_get shape p.0 s.0 (0, 0) s.1)) ∙ places.made p.0 is.2 within in
        fits.new p.0 wasnt ∙ slice_get-map (λ (x : ℕ × ℕ). new_object x.1) shape p.0
        ∙ ap (option_map (λ (x : ℕ × ℕ). new_object x.1)) s.1 ∙ ap (λ k. Some (new_object k)) size

    made_store : (t : ℕ) (p : ℕ × ℕ) → MayCreate n made t p → with_new slots (store_of n made objects) t p ≡ store_of n (grown made t p.1) objects
    made_store t p m =
        let there = class_comes (class_if_there n made) (class_if_there n (grown made t p.1)) objects p.0 p.1
        (new_object slots) (new_there t p m) (class_new n made t p m)
        (λ i d. class_other n made t p i m d) in
        let lengths : List ℕ = map (λ (r : List ℕ). length r) made in
        let count : slice_set lengths t (slice_index lengths t + 1) ≡ map (λ (r : List ℕ). length r) (grown made t p.1) =
        ap (λ k. slice_set lengths t (k + 1)) (count_is made t)
        ∙ ap (slice_set lengths t) (sym (length-append (made_by made t) (p.1 ∷ [])))
        ∙ sym (counts_set made t (made_by made t ++ p.1 ∷ [])) in
        rw (there, ← count) refl

    may_alike : (t : ℕ) (p : ℕ × ℕ) → may_make n (store_of n made objects) t p ≡ may_create n made t p
    may_alike t p =
        ap (λ k. nat_lt t k && nat_lt count most_made && nat_lt p.1 n.classes && (p.0 == made_number n t count) && not (has_object store p.0)) (sym fits.rows)
        ∙ ap (λ k. nat_lt t (length made) && nat_lt k most_made && nat_lt p.1 n.classes
        && (p.0 == made_number n t k) && not (has_object store p.0)) (count_is made t)
        ∙ by_test (may_create n made t p) refl
      where
        store : ObjectStore
        store = store_of n made objects

        count : ℕ
        count = slice_index store.made t

        by_test : (b : Bool) → may_create n made t p ≡ b → (b && not (has_object store p.0)) ≡ b
        by_test false h = refl
        by_test true h =
            let m = creating n made t p h in
            let is = maker_of_new (first_made n) t (length (made_by made t)) p.0 m.room m.number in
            let wasnt = has_is_there p.0 ∙ new_wasnt n made t p.0 is.2 is.0 is.1 in
            rw wasnt refl

    makes : (t : ℕ) (e : Entry) (p : ℕ × ℕ) → named e ≡ None
        → store_after n slots (store_of n made objects) t e (Some p) ≡ store_of_both n (take_created n made t e (Some p)) (take_entry objects t e)
    makes t e p none =
        ap (λ b. only_if b (with_new slots (store_of n made objects) t p)) (may_alike t p) ∙ by_test (may_create n made t p) refl
        ∙ ap (λ m. store_of_both n (take_created n made t e (Some p)) (take_named objects t e m)) (sym none)
      where
        by_test : (b : Bool) → may_create n made t p ≡ b
            → only_if b (with_new slots (store_of n made objects) t p) ≡ store_of_both n (only_if b (grown made t p.1)) (Some objects)
        by_test false h = refl
        by_test true h = ap (λ s. Some s) (made_store t p (creating n made t p h))

    step : (t : ℕ) (e : Entry) → take_in_store n slots (store_of n made objects) t e ≡ store_of_both n (take_made n made t e) (take_entry objects t e)
    step t e = by_made (creates e) refl
      where
        by_made : (p : Option (ℕ × ℕ)) → creates e ≡ p
            → store_after n slots (store_of n made objects) t e p ≡ store_of_both n (take_created n made t e p) (take_entry objects t e)
        by_made None c = finds t e
        by_made (Some p) c = makes t e p (creates_unnamed e p c)

  -- WHAT IS KEPT by an entry that both take
  module _ (made : List (List ℕ)) (objects : List PlainObject) (t : ℕ) (e : Entry) (made' : List (List ℕ)) (objects' : List PlainObject)
      (h : take_made n made t e ≡ Some made') (k : take_entry objects t e ≡ Some objects') (fits : GoTogether n shape made objects) where
    rows_kept : (p : Option (ℕ × ℕ)) → take_created n made t e p ≡ Some made' → length made' ≡ n.threads
    rows_kept None g = let a = cond_some (all_there n made (needs e)) made made' g in ap (λ (m : List (List ℕ)). length m) (sym a.1) ∙ fits.rows
    rows_kept (Some p) g =
        let a = cond_some (may_create n made t p) (grown made t p.1) made' g in
        ap (λ (m : List (List ℕ)). length m) (sym a.1) ∙ length-set made t (made_by made t ++ p.1 ∷ []) ∙ fits.rows

    few_kept : (p : Option (ℕ × ℕ)) → take_created n made t e p ≡ Some made' → (u : ℕ) → length (made_by made' u) ≤ most_made
    few_kept None g u = let a = cond_some (all_there n made (needs e)) made made' g in subst (λ m. length (made_by m u) ≤ most_made) a.1 (fits.few u)
    few_kept (Some p) g u =
        let a = cond_some (may_create n made t p) (grown made t p.1) made' g in
        let m = creating n made t p a.0 in
        let grown_few : length (made_by (grown made t p.1) u) ≤ most_made = elim (cases_eq u t) [
          | inl s ↦ let one = ap (λ v. length (made_by (grown made t p.1) v)) s ∙ row_same made t p.1 m.thread in let room = m.room in omega (arith, one, room)
          | inr d ↦ let same = ap (λ (r : List ℕ). length r) (row_other made t p.1 u d) in let old = fits.few u in omega (arith, same, old)
        ] in
        subst (λ v. length (made_by v u) ≤ most_made) a.1 grown_few

    length_kept : (m : Option ℕ) → take_named objects t e m ≡ Some objects' → length objects' ≡ length objects
    length_kept None g = ap (λ (xs : List PlainObject). length xs) (sym (same_Some objects objects' g))
    length_kept (Some o) g = let a = taken_at objects objects' t e o g in ap (λ (xs : List PlainObject). length xs) a.is ∙ length-set objects o a.y

    left : (o : ℕ) (m : Option ℕ) → m ≢ Some o → take_named objects t e m ≡ Some objects' → slice_get objects' o ≡ slice_get objects o
    left o None d g = ap (λ xs. slice_get xs o) (sym (same_Some objects objects' g))
    left o (Some i) d g =
        let a = taken_at objects objects' t e i g in
        ap (λ xs. slice_get xs o) a.is ∙ get_set_other objects i o a.y (λ s. d (ap Some s))

    wasnt_there : (o : ℕ) → is_there n made' o ≡ false → (b : Bool) → is_there n made o ≡ b → b ≡ false
    wasnt_there o none true b = let there = there_stays n made made' t e o h b in absurd (cc (there, none))
    wasnt_there o none false b = refl

    kept : GoTogether n shape made' objects'
    kept = record {
      rows = rows_kept (creates e) h;
      few = few_kept (creates e) h;
      all = length_kept (named e) k ∙ fits.all;
      new = λ o none.
          let before = wasnt_there o none (is_there n made o) refl in
          left o (named e) (λ s. let there = named_there n made made' t e o h s in absurd (cc (there, before))) k ∙ fits.new o before;
    }

  no_objects : (made : Option (List (List ℕ))) → None ≡ store_of_both n made None
  no_objects None = refl
  no_objects (Some made) = refl

  -- ALL ENTRIES, one after the other
  abbrev pub StepsAlike : List (ℕ × Logged) → Type 0
  StepsAlike xs = (made : List (List ℕ)) (objects : List PlainObject) → GoTogether n shape made objects
      → run_all (take_in_store n slots) (store_of n made objects) xs ≡ store_of_both n (run_all (take_made n) made xs) (run_all take_entry objects xs)

  step_first : (x : ℕ × Logged) (xs : List (ℕ × Logged)) (made : List (List ℕ)) (objects : List PlainObject) → GoTogether n shape made objects → StepsAlike xs
      → (m : Option (List (List ℕ))) (k : Option (List PlainObject)) → take_made n made x.0 x.1.entry ≡ m → take_entry objects x.0 x.1.entry ≡ k
      → option_and_then (λ s. run_all (take_in_store n slots) s xs) (store_of_both n m k)
      ≡ store_of_both n (option_and_then (λ a. run_all (take_made n) a xs) m) (option_and_then (λ a. run_all take_entry a xs) k)
  step_first x xs made objects fits others None k g h = refl
  step_first x xs made objects fits others (Some m) None g h = no_objects (run_all (take_made n) m xs)
  step_first x xs made objects fits others (Some m) (Some k) g h = others m k (kept made objects x.0 x.1.entry m k g h fits)

  all_steps : (xs : List (ℕ × Logged)) → StepsAlike xs
  all_steps [] made objects fits = refl
  all_steps (x ∷ xs) made objects fits =
      ap (option_and_then (λ s. run_all (take_in_store n slots) s xs)) (step made objects fits x.0 x.1.entry)
      ∙ step_first x xs made objects fits (all_steps xs) (take_made n made x.0 x.1.entry) (take_entry objects x.0 x.1.entry) refl refl

-- AT FIRST
no_rows : (threads u : ℕ) → made_by (replicate threads []) u ≡ []
no_rows zero u = refl
no_rows (suc threads) zero = refl
no_rows (suc threads) (suc u) = no_rows threads u

go_at_first : (n : Numbering) (shape : List (ℕ × ℕ)) → GoTogether n shape (nothing_made n) (new_objects shape)
go_at_first n shape = record {
  rows = length-replicate n.threads [];
  few = λ u. let none = ap (λ (r : List ℕ). length r) (no_rows n.threads u) in omega (arith, none);
  all = length-map shape (λ (s : ℕ × ℕ). new_object s.1);
  new = λ o none. refl;
}

class_at_first : (n : Numbering) (i : ℕ) → class_if_there n (nothing_made n) i ≡ slice_get n.declared i
class_at_first n i = by_test (nat_lt i (first_made n)) refl
  where
    by_test : (b : Bool) → nat_lt i (first_made n) ≡ b
        → cond b (slice_get n.declared i) (slice_get (made_by (nothing_made n) (maker_of n i)) (place_of n i)) ≡ slice_get n.declared i
    by_test true e = refl
    by_test false e =
        ap (λ (r : List ℕ). slice_get r (place_of n i)) (no_rows n.threads (maker_of n i)) ∙ sym (slice_get_past n.declared i (grind (arith, nat_tests, e)))

declared_have_classes : (declared : List ℕ) (shape : List (ℕ × ℕ)) (class : ℕ → Option ℕ) → ((i : ℕ) → class i ≡ slice_get declared i)
    → declared_objects declared shape ≡ with_classes class (new_objects shape)
declared_have_classes declared [] class is = refl
declared_have_classes [] (x ∷ shape) class is =
    let head : option_map {U = ℕ × PlainObject} (λ c. (c, new_object x.1)) (class 0) ≡ None =
    ap (option_map {U = ℕ × PlainObject} (λ c. (c, new_object x.1))) (is 0) in
    let tail = declared_have_classes [] shape (λ i. class (suc i)) (λ i. is (suc i)) in
    rw (head, tail) refl
declared_have_classes (c ∷ declared) (x ∷ shape) class is =
    let head : option_map {U = ℕ × PlainObject} (λ k. (k, new_object x.1)) (class 0) ≡ Some (c, new_object x.1) =
    ap (option_map {U = ℕ × PlainObject} (λ k. (k, new_object x.1))) (is 0) in
    let tail = declared_have_classes declared shape (λ i. class (suc i)) (λ i. is (suc i)) in
    rw (head, tail) refl

no_counts : (threads : ℕ) → map (λ (r : List ℕ). length r) (replicate threads []) ≡ replicate threads 0
no_counts zero = refl
no_counts (suc threads) = ap (λ xs. 0 ∷ xs) (no_counts threads)

store_at_first : (n : Numbering) (shape : List (ℕ × ℕ)) → new_store n shape ≡ store_of n (nothing_made n) (new_objects shape)
store_at_first n shape =
    let there = declared_have_classes n.declared shape (class_if_there n (nothing_made n)) (class_at_first n) in
    let counts = no_counts n.threads in
    rw (there, counts) refl

-- the store takes the entries of logs exactly where the two states do
pub store_takes_both : (n : Numbering) (slots : ℕ) (shape : List (ℕ × ℕ)) (logs : List (List Logged)) → HasPlaces n slots shape
    → store_after_all n slots shape logs ≡ store_of_both n (made_after n logs) (objects_after shape logs)
store_takes_both n slots shape logs places =
    ap (λ s. run_all (take_in_store n slots) s (order logs)) (store_at_first n shape)
    ∙ all_steps n slots shape places (order logs) (nothing_made n) (new_objects shape) (go_at_first n shape)
