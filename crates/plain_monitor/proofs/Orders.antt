-- Putting entries into the order, one after the other.
use Rattle.std.proofs.Common.{◌≡◌, ℕ, ◌⊎◌, Bool, true, false, List, [], ◌∷◌, ◌++◌, refl, ap, ◌∙◌, arith, inl, inr}
use Rattle.std.proofs.lemmas.Bool.Decides.{nat_tests}
use Rattle.std.specs.List.{AllByRecursion}
use Rattle.plain_monitor.specs.declared.entry.Logged.{Logged}
use Rattle.plain_monitor.specs.Order.{is_before, insert_ordered, ordered}

-- one of the two entries stands before the other
abbrev pub Differs : ℕ × Logged → ℕ × Logged → Type 0
Differs x y = (is_before x y ≡ true) ⊎ (is_before y x ≡ true)

-- of two entries at most one stands before the other
pub before_asym : (x y : ℕ × Logged) → is_before x y ≡ true → is_before y x ≡ false
before_asym x y h = grind (arith, nat_tests)

-- what stands before an entry stands before all that this one stands before
before_trans : (x y z : ℕ × Logged) → is_before x y ≡ true → is_before y z ≡ true → is_before x z ≡ true
before_trans x y z h k = grind (arith, nat_tests)

-- two entries go into a list either way, by the outcomes of the tests against its head and against each other
commute_at_head : (a b y : ℕ × Logged) (ys : List (ℕ × Logged)) (p q r s : Bool) → is_before a y ≡ p → is_before b y ≡ q → is_before a b ≡ r → is_before b a ≡ s
    → Differs a b → insert_ordered a (insert_ordered b ys) ≡ insert_ordered b (insert_ordered a ys)
    → insert_ordered a (insert_ordered b (y ∷ ys)) ≡ insert_ordered b (insert_ordered a (y ∷ ys))
commute_at_head a b y ys true true true true hp hq hr hs d ih = absurd (grind (arith, before_asym a b hr, hs))
commute_at_head a b y ys true true true false hp hq hr hs d ih = simp (hp, hq, hr, hs)
commute_at_head a b y ys true true false true hp hq hr hs d ih = simp (hp, hq, hr, hs)
commute_at_head a b y ys true true false false hp hq hr hs d ih = absurd (grind (arith, d, hr, hs))
commute_at_head a b y ys true false r true hp hq hr hs d ih = absurd (grind (arith, before_trans b a y hs hp, hq))
commute_at_head a b y ys true false r false hp hq hr hs d ih = simp (hp, hq, hs)
commute_at_head a b y ys false true true s hp hq hr hs d ih = absurd (grind (arith, before_trans a b y hr hq, hp))
commute_at_head a b y ys false true false s hp hq hr hs d ih = simp (hp, hq, hr)
commute_at_head a b y ys false false r s hp hq hr hs d ih = simp (hp, hq) (ap (λ zs. y ∷ zs) ih)

-- two entries that differ go into a list either way
inserts_commute : (a b : ℕ × Logged) (xs : List (ℕ × Logged)) → Differs a b → insert_ordered a (insert_ordered b xs) ≡ insert_ordered b (insert_ordered a xs)
inserts_commute a b [] (inl h) = let k = before_asym a b h in simp (h, k)
inserts_commute a b [] (inr h) = let k = before_asym b a h in simp (h, k)
inserts_commute a b (y ∷ ys) d =
    commute_at_head a b y ys (is_before a y) (is_before b y) (is_before a b) (is_before b a) refl refl refl refl d (inserts_commute a b ys d)

-- the entry differs from each of these
abbrev pub DiffersFromAll : ℕ × Logged → List (ℕ × Logged) → Type 0
DiffersFromAll x ys = AllByRecursion (λ y. Differs y x) ys

-- an entry that goes into the end of a list goes into the order of the whole
pub ordered_append : (x : ℕ × Logged) (xs ys zs : List (ℕ × Logged)) → DiffersFromAll x xs → ordered zs ≡ insert_ordered x (ordered ys)
    → ordered (xs ++ zs) ≡ insert_ordered x (ordered (xs ++ ys))
ordered_append x [] ys zs d h = h
ordered_append x (w ∷ xs) ys zs d h = ap (insert_ordered w) (ordered_append x xs ys zs d.1 h) ∙ inserts_commute w x (ordered (xs ++ ys)) d.0

-- a fact of an entry and of all of a list holds after the entry is put in, by the test against the list's head
all_insert_at_head : (P : ℕ × Logged → Type 0) (x y : ℕ × Logged) (ys : List (ℕ × Logged)) (b : Bool) → is_before x y ≡ b → P x → P y → AllByRecursion P ys
    → AllByRecursion P (insert_ordered x ys) → AllByRecursion P (insert_ordered x (y ∷ ys))
all_insert_at_head P x y ys true h px py a ih = rw h (px, (py, a))
all_insert_at_head P x y ys false h px py a ih = rw h (py, ih)

-- a fact of an entry and of all of a list holds after the entry is put in
pub all_insert : (P : ℕ × Logged → Type 0) (x : ℕ × Logged) (ys : List (ℕ × Logged)) → P x → AllByRecursion P ys → AllByRecursion P (insert_ordered x ys)
all_insert P x [] px a = (px, tt)
all_insert P x (y ∷ ys) px a = all_insert_at_head P x y ys (is_before x y) refl px a.0 a.1 (all_insert P x ys px a.1)

-- a fact of all of a list holds of all of its order
pub all_ordered : (P : ℕ × Logged → Type 0) (xs : List (ℕ × Logged)) → AllByRecursion P xs → AllByRecursion P (ordered xs)
all_ordered P [] a = tt
all_ordered P (x ∷ xs) a = all_insert P x (ordered xs) a.0 (all_ordered P xs a.1)

-- an entry that stands before all of a list goes in front
pub insert_front : (x : ℕ × Logged) (xs : List (ℕ × Logged)) → AllByRecursion (λ y. is_before x y ≡ true) xs → insert_ordered x xs ≡ x ∷ xs
insert_front x [] a = refl
insert_front x (y ∷ ys) a = rw (a.0) refl
