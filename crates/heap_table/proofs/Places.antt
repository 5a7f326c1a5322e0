-- No two names have one place.
use Rattle.std.proofs.Common.{◌≡◌, ◌⊎◌, ℕ, zero, suc, ◌+◌, ◌-◌, ◌*◌, ◌<◌, ◌≤◌, ◌==◌, ◌&&◌, nat_lt, List, [], ◌∷◌, true, false}
use Rattle.std.proofs.Common.{cond, if◌then◌else◌, true≢false, eq-eqb, inl, inr, ⊎_elim, ◌≢◌, refl, sym, ap, ◌∙◌, arith}
use Rattle.std.proofs.Math.Nat.{mul_comm}
use Rattle.std.proofs.lemmas.Nat.{same_from_place}
use Rattle.core_world.specs.declared.word_id.WordId.{WordId}
use Rattle.core_world.specs.declared.word_id.WordId.TheVariants.{Safepoint, Prototype, Revocations, LastBulk, Mark, Stamp, Slot, Hold, Displaced}
use Rattle.core_world.specs.declared.word_id.WordId.TheVariants.{Waiting, Length, Owner, Recursions, Header, Object, Claim, End, Ring, Class}
use Rattle.core_world.specs.Words.Names.{kind_of, first_index, second_index, same_name}
use Rattle.core_world.specs.Words.Shape.{Shape, ring_places}
use Rattle.core_world.proofs.Naming.{same_named}
use Rattle.core_world.specs.There.{IsIn}
use Rattle.heap_table.specs.Layout.{group, number, many, object_size, place_of, word_count}
use Rattle.heap_table.specs.inner.Layout.{IsPlaced}
use Rattle.heap_table.proofs.Sizes.{size_room, size_some, next_row}

-- where it lies in its group; here each place of the ring is a group of one word
abbrev pub offset : WordId → ℕ
offset Safepoint = 0
offset Claim = 8
offset End = 7
offset (Prototype c) = 0
offset (Revocations c) = 1
offset (LastBulk c) = 2
offset (Mark o) = 0
offset (Stamp o) = 1
offset (Slot o i) = 3 + i
offset (Class o) = 2
offset (Hold t p) = p
offset (Displaced t p) = 64 + p
offset (Length t) = 128
offset (Waiting t) = 136
offset (Owner m) = 0
offset (Recursions m) = 1
offset (Header m) = 2
offset (Object m) = 3
offset (Ring p) = 0

-- how many words a group of each kind has
abbrev width : Shape → ℕ → ℕ
width s g = if g == 2 then object_size s else if g == 3 then 144 else if g == 4 then 11 else if g == 5 then 1 else 16

-- how many words its group has at least from it on
abbrev room : WordId → ℕ
room (Ring p) = 1
room _ = 8

-- how many words all groups of each kind have
abbrev pub sizes : Shape → List ℕ
sizes s = 16 ∷ (16 * s.classes) ∷ (object_size s * many s) ∷ (144 * s.threads) ∷ (11 * (many s + s.threads)) ∷ ring_places s ∷ []

abbrev pub before : ℕ → List ℕ → ℕ
before zero xs = 0
before (suc k) [] = 0
before (suc k) (x ∷ xs) = x + before k xs

rising : (xs : List ℕ) (a b : ℕ) → a < b → before (suc a) xs ≤ before b xs
rising xs a zero h = absurd (omega (arith, h))
rising [] a (suc b) h = omega arith
rising (x ∷ xs) zero (suc b) h = omega arith
rising (x ∷ xs) (suc a) (suc b) h = let r = rising xs a b (omega (arith, h)) in omega (arith, r)

-- a word lies within the groups of its kind, and outside the ring not in the last 8 words of its group but for the first of these
record Lies (s : Shape) (n : WordId) : Type 0 where
  from : before (group n) (sizes s) ≤ place_of s n
  to : place_of s n + room n ≤ before (suc (group n)) (sizes s)
  at : place_of s n ≡ before (group n) (sizes s) + (width s (group n) * first_index n + offset n)
  low : offset n + room n ≤ width s (group n)

lies : (s : Shape) (n : WordId) → IsIn s n → Lies s n
lies s Safepoint h = record { from = omega arith; to = omega arith; at = omega arith; low = omega arith }
lies s Claim h = record { from = omega arith; to = omega arith; at = omega arith; low = omega arith }
lies s End h = record { from = omega arith; to = omega arith; at = omega arith; low = omega arith }
lies s (Prototype c) h = record { from = omega (arith, h); to = omega (arith, h); at = omega arith; low = omega arith }
lies s (Revocations c) h = record { from = omega (arith, h); to = omega (arith, h); at = omega arith; low = omega arith }
lies s (LastBulk c) h = record { from = omega (arith, h); to = omega (arith, h); at = omega arith; low = omega arith }
lies s (Mark o) h =
    let next = next_row (object_size s) o (many s) h in
    let some = size_some s in
    record { from = omega arith; to = omega (arith, next, some); at = omega arith; low = omega (arith, some) }
lies s (Stamp o) h =
    let next = next_row (object_size s) o (many s) h in
    let some = size_some s in
    record { from = omega arith; to = omega (arith, next, some); at = omega arith; low = omega (arith, some) }
lies s (Class o) h =
    let next = next_row (object_size s) o (many s) h.0 in
    let some = size_some s in
    record { from = omega arith; to = omega (arith, next, some); at = omega arith; low = omega (arith, some) }
lies s (Slot o i) h =
    let next = next_row (object_size s) o (many s) h.0 in
    let fits = size_room s o i h.1 in
    record { from = omega arith; to = omega (arith, next, fits); at = omega arith; low = omega (arith, fits) }
lies s (Hold t p) h = record { from = omega (arith, h.0, h.1); to = omega (arith, h.0, h.1); at = omega arith; low = omega (arith, h.1) }
lies s (Displaced t p) h = record { from = omega (arith, h.0, h.1); to = omega (arith, h.0, h.1); at = omega arith; low = omega (arith, h.1) }
lies s (Waiting t) h = record { from = omega (arith, h); to = omega (arith, h); at = omega arith; low = omega arith }
lies s (Length t) h = record { from = omega (arith, h); to = omega (arith, h); at = omega arith; low = omega arith }
lies s (Owner m) h = record { from = omega (arith, h); to = omega (arith, h); at = omega arith; low = omega arith }
lies s (Recursions m) h = record { from = omega (arith, h); to = omega (arith, h); at = omega arith; low = omega arith }
lies s (Header m) h = record { from = omega (arith, h); to = omega (arith, h); at = omega arith; low = omega arith }
lies s (Object m) h = record { from = omega (arith, h); to = omega (arith, h); at = omega arith; low = omega arith }
lies s (Ring p) h = record { from = omega (arith, h); to = omega (arith, h); at = omega arith; low = omega arith }

some_room : (n : WordId) → 1 ≤ room n
some_room (Ring p) = omega arith
some_room _ = omega arith

-- but for the words of the ring
much_room : (n : WordId) → group n < 5 → room n ≡ 8
much_room (Ring p) h = absurd (omega (arith, h))
much_room _ h = refl

number_is : (n : WordId) → group n < 5 → number n ≡ first_index n
number_is (Ring p) h = absurd (omega (arith, h))
number_is _ h = refl

-- there is one ring
one_ring : (n : WordId) → 0 < number n → group n < 5
one_ring (Ring p) h = absurd (omega (arith, h))
one_ring _ h = omega arith

few_groups : (n : WordId) → group n ≤ 5
few_groups Safepoint = omega arith
few_groups Claim = omega arith
few_groups End = omega arith
few_groups (Prototype c) = omega arith
few_groups (Revocations c) = omega arith
few_groups (LastBulk c) = omega arith
few_groups (Mark o) = omega arith
few_groups (Stamp o) = omega arith
few_groups (Slot o i) = omega arith
few_groups (Class o) = omega arith
few_groups (Hold t p) = omega arith
few_groups (Displaced t p) = omega arith
few_groups (Waiting t) = omega arith
few_groups (Length t) = omega arith
few_groups (Owner m) = omega arith
few_groups (Recursions m) = omega arith
few_groups (Header m) = omega arith
few_groups (Object m) = omega arith
few_groups (Ring p) = omega arith

all_before : (s : Shape) → before 6 (sizes s) ≡ word_count s
all_before s = omega arith

pub within : (s : Shape) (n : WordId) → IsIn s n → place_of s n < word_count s
within s n h =
    let a = lies s n h in
    let b = rising (sizes s) (group n) 6 (let f = few_groups n in omega (arith, f)) in
    let c = all_before s in
    let some = some_room n in
    omega (arith, a.to, b, c, some)

-- the kind of a word, and its second number, by where it lies in its group
abbrev kind_in : ℕ → ℕ → ℕ
kind_in g i =
    if g == 0 then cond (i == 0) 0 (cond (i == 8) 15 16)
    else if g == 1 then 1 + i
    else if g == 2 then cond (i == 0) 4 (cond (i == 1) 5 (cond (i == 2) 18 6))
    else if g == 3 then cond (nat_lt i 64) 7 (cond (nat_lt i 128) 8 (cond (i == 128) 10 9))
    else if g == 4 then 11 + i
    else 17

abbrev second_in : ℕ → ℕ → ℕ
second_in g i = if g == 2 then i - 3 else if g == 3 then cond (nat_lt i 64) i (cond (nat_lt i 128) (i - 64) 0) else 0

lower : (i : ℕ) → i < 64 → nat_lt i 64 ≡ true
lower i h = search (arith, h)

not_lower : (i : ℕ) → nat_lt (64 + i) 64 ≡ false
not_lower i = search arith

middle : (i : ℕ) → i < 64 → nat_lt (64 + i) 128 ≡ true
middle i h = search (arith, h)

record Told (n : WordId) : Type 0 where
  kind_is : kind_of n ≡ kind_in (group n) (offset n)
  second_is : second_index n ≡ second_in (group n) (offset n)

told : (s : Shape) (n : WordId) → IsIn s n → Told n
told s Safepoint h = record { kind_is = refl; second_is = refl }
told s Claim h = record { kind_is = refl; second_is = refl }
told s End h = record { kind_is = refl; second_is = refl }
told s (Prototype c) h = record { kind_is = refl; second_is = refl }
told s (Revocations c) h = record { kind_is = refl; second_is = refl }
told s (LastBulk c) h = record { kind_is = refl; second_is = refl }
told s (Mark o) h = record { kind_is = refl; second_is = refl }
told s (Stamp o) h = record { kind_is = refl; second_is = refl }
told s (Slot o i) h =
    let e : (3 + i == 0) ≡ false = search arith in
    let f : (3 + i == 1) ≡ false = search arith in
    let g : (3 + i == 2) ≡ false = search arith in
    record {
      kind_is = λ j. cond (sym e j) 4 (cond (sym f j) 5 (cond (sym g j) 18 6));
      second_is = omega arith;
    }
told s (Class o) h = record { kind_is = refl; second_is = refl }
told s (Hold t p) h =
    let e = lower p h.1 in record {
      kind_is = ap (λ b. cond b 7 (cond (nat_lt p 128) 8 (cond (p == 128) 10 9))) (sym e);
      second_is = ap (λ b. cond b p (cond (nat_lt p 128) (p - 64) 0)) (sym e);
    }
told s (Displaced t p) h =
    let e = not_lower p in
    let f = middle p h.1 in
    let d : p ≡ 64 + p - 64 = omega arith in record {
      kind_is = λ i. cond (sym e i) 7 (cond (sym f i) 8 (cond (64 + p == 128) 10 9));
      second_is = d ∙ λ i. cond (sym e i) (64 + p) (cond (sym f i) (64 + p - 64) 0);
    }
told s (Waiting t) h = record { kind_is = refl; second_is = refl }
told s (Length t) h = record { kind_is = refl; second_is = refl }
told s (Owner m) h = record { kind_is = refl; second_is = refl }
told s (Recursions m) h = record { kind_is = refl; second_is = refl }
told s (Header m) h = record { kind_is = refl; second_is = refl }
told s (Object m) h = record { kind_is = refl; second_is = refl }
told s (Ring p) h = record { kind_is = refl; second_is = refl }

-- a number of groups and a place in one are told by their sum, where the place is within a group
parts : (d a i b j : ℕ) → i < d → j < d → d * a + i ≡ d * b + j → (a ≡ b) × (i ≡ j)
parts d a i b j p q h = same_from_place a i b j d p q (ap (λ (x : ℕ). x + i) (mul_comm a d) ∙ h ∙ ap (λ (x : ℕ). x + j) (mul_comm d b))

one_group : (s : Shape) (m n : WordId) → IsIn s m → IsIn s n → place_of s m ≡ place_of s n → group m ≡ group n
one_group s m n h g e =
    let a = lies s m h in
    let b = lies s n g in
    let some = some_room m in
    let too = some_room n in
    let up : group m < group n → ⊥ = λ lt. let r = rising (sizes s) (group m) (group n) lt in omega (arith, r, a.to, b.from, some, e) in
    let down : group n < group m → ⊥ = λ lt. let r = rising (sizes s) (group n) (group m) lt in omega (arith, r, b.to, a.from, too, e) in
    grind (arith, up, down)

pub same_place : (s : Shape) (m n : WordId) → IsIn s m → IsIn s n → place_of s m ≡ place_of s n → same_name m n ≡ true
same_place s m n h g e =
    let a = lies s m h in
    let b = lies s n g in
    let c = told s m h in
    let d = told s n g in
    let k = one_group s m n h g e in
    let wide : width s (group m) ≡ width s (group n) = ap (width s) k in
    let low : before (group m) (sizes s) ≡ before (group n) (sizes s) = ap (λ (x : ℕ). before x (sizes s)) k in
    let at : place_of s n ≡ before (group n) (sizes s) + (width s (group m) * first_index n + offset n) =
    b.at ∙ ap (λ (x : ℕ). before (group n) (sizes s) + (x * first_index n + offset n)) (sym wide) in
    let some = some_room m in
    let too = some_room n in
    let x = parts (width s (group m)) (first_index m) (offset m) (first_index n) (offset n)
    (omega (arith, a.low, some)) (omega (arith, b.low, too, wide)) (omega (arith, a.at, at, low, e)) in
    let f : (kind_of m == kind_of n) ≡ true = eq-eqb _ _ (c.kind_is ∙ (λ i. kind_in (k i) (x.1 i)) ∙ sym d.kind_is) in
    let t : (second_index m == second_index n) ≡ true = eq-eqb _ _ (c.second_is ∙ (λ i. second_in (k i) (x.1 i)) ∙ sym d.second_is) in
    let u : (first_index m == first_index n) ≡ true = eq-eqb _ _ x.0 in
    λ i. f i && t i && u i

-- 8 words before the end of a group, or further, is 8 words before each later group
far : (d a i b j : ℕ) → i + 8 ≤ d → a < b → d * a + i + 8 ≤ d * b + j
far d a i b j p h = let next = next_row d a b h in omega (arith, p, next)

-- the words of a group lie 8 words or more before those of a later one
before_by_8 : (s : Shape) (m n : WordId) → IsIn s m → IsIn s n
    → (group m < group n) ⊎ ((group m ≡ group n) × (number m < number n)) → place_of s m + 8 ≤ place_of s n
before_by_8 s m n h g (inl lt) =
    let a = lies s m h in
    let b = lies s n g in
    let few = few_groups n in
    let much = much_room m (omega (arith, few, lt)) in
    let r = rising (sizes s) (group m) (group n) lt in omega (arith, r, a.to, b.from, much)
before_by_8 s m n h g (inr (k, lt)) =
    let a = lies s m h in
    let b = lies s n g in
    let low : before (group m) (sizes s) ≡ before (group n) (sizes s) = ap (λ (x : ℕ). before x (sizes s)) k in
    let at : place_of s n ≡ before (group n) (sizes s) + (width s (group m) * first_index n + offset n) =
    b.at ∙ ap (λ (x : ℕ). before (group n) (sizes s) + (width s x * first_index n + offset n)) (sym k) in
    let no_ring : group n < 5 = one_ring n (omega (arith, lt)) in
    let nor_there : group m < 5 = omega (arith, k, no_ring) in
    let much = much_room m nor_there in
    let first = number_is m nor_there in
    let second = number_is n no_ring in
    let r = far (width s (group m)) (first_index m) (offset m) (first_index n) (offset n) (omega (arith, a.low, much)) (omega (arith, lt, first, second)) in
    omega (arith, a.at, at, low, r)

order : (a b : ℕ) → (a < b) ⊎ (b < a) ⊎ (a ≡ b)
order zero zero = inr (inr refl)
order zero (suc b) = inl (omega arith)
order (suc a) zero = inr (inl (omega arith))
order (suc a) (suc b) =
    elim (order a b) [ inl h ↦ inl (omega (arith, h)) | inr r ↦ elim r [ inl h ↦ inr (inl (omega (arith, h))) | inr e ↦ inr (inr (ap suc e)) ] ]

pub apart_by_8 : (s : Shape) (m n : WordId) → IsIn s m → IsIn s n → (group m ≢ group n) ⊎ (number m ≢ number n)
    → (place_of s m + 8 ≤ place_of s n) ⊎ (place_of s n + 8 ≤ place_of s m)
apart_by_8 s m n h g d = elim (order (group m) (group n)) [
  | inl lt ↦ inl (before_by_8 s m n h g (inl lt))
  | inr r ↦ elim r [
    | inl lt ↦ inr (before_by_8 s n m g h (inl lt))
    | inr e ↦ by_number e (order (number m) (number n))
  ]
]
  where
    by_number : group m ≡ group n → (number m < number n) ⊎ (number n < number m) ⊎ (number m ≡ number n)
        → (place_of s m + 8 ≤ place_of s n) ⊎ (place_of s n + 8 ≤ place_of s m)
    by_number e (inl lt) = inl (before_by_8 s m n h g (inr (e, lt)))
    by_number e (inr (inl lt)) = inr (before_by_8 s n m g h (inr (sym e, lt)))
    by_number e (inr (inr same)) = absurd (⊎_elim (λ f. f e) (λ f. f same) d)

pub one_name : (s : Shape) (m n : WordId) → IsIn s m → IsIn s n → place_of s m ≡ place_of s n → m ≡ n
one_name s m n h g e = same_named m n (same_place s m n h g e)

pub apart : (s : Shape) (m n : WordId) → IsIn s m → IsIn s n → same_name m n ≡ false → place_of s m ≡ place_of s n → ⊥
apart s m n h g e p = true≢false (sym (same_place s m n h g p) ∙ e)

pub placed : (s : Shape) (n : WordId) → IsIn s n → IsPlaced n
placed s Safepoint h = tt
placed s (Prototype c) h = tt
placed s (Revocations c) h = tt
placed s (LastBulk c) h = tt
placed s (Mark o) h = tt
placed s (Stamp o) h = tt
placed s (Slot o i) h = tt
placed s (Class o) h = tt
placed s (Hold t p) h = h.1
placed s (Displaced t p) h = tt
placed s (Waiting t) h = tt
placed s (Length t) h = tt
placed s (Owner m) h = tt
placed s (Recursions m) h = tt
placed s (Header m) h = tt
placed s (Object m) h = tt
placed s Claim h = tt
placed s End h = tt
placed s (Ring p) h = tt
