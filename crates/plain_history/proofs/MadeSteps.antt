-- What is there after an entry: more than before, by one object at most; and two entries of two threads can be taken the other way round, where
-- the first doesn't make what the second needs.
use Rattle.std.proofs.Common.{◌≡◌, ℕ, ◌+◌, ◌-◌, ◌*◌, ◌/◌, ◌%◌, ◌<◌, ◌≤◌, ◌≢◌, ◌==◌, ◌||◌, ◌&&◌, nat_lt, Bool, true, false}
use Rattle.std.proofs.Common.{List, [], ◌∷◌, ◌++◌, length, slice_set, refl, ap, sym, ◌∙◌, subst, arith, inl, inr, Option}
use Rattle.std.proofs.Common.{Some, None, length-append, length-set, option_map, get_or-set_other, get_or-set_same}
use Rattle.std.proofs.lemmas.Bool.{cases_eq}
use Rattle.std.proofs.lemmas.Bool.Decides.{nat_tests}
use Rattle.std.proofs.lemmas.List.{set_comm}
use Rattle.std.proofs.lemmas.Option.{cond_some}
use Rattle.std.specs.List.{list_all, list_any}
use Rattle.plain_monitor.specs.Limits.{most_made}
use Rattle.plain_monitor.specs.declared.entry.Entry.{Entry}
use Rattle.plain_monitor.specs.declared.entry.Logged.{Logged}
use Rattle.plain_monitor.specs.Made.{Numbering, first_made, made_number, maker_of, place_of, made_by}
use Rattle.plain_monitor.specs.Made.{is_there, creates, needs, may_create, take_created, take_made}
use Rattle.plain_history.specs.Known.{is_one_of, makes_for}
use Rattle.plain_history.proofs.Passing.{TakesTurned}

-- what is there where thread t has made one more
abbrev pub grown : List (List ℕ) → ℕ → ℕ → List (List ℕ)
grown made t c = slice_set made t (made_by made t ++ c ∷ [])

pub row_same : (made : List (List ℕ)) (t c : ℕ) → t < length made → length (made_by (grown made t c) t) ≡ length (made_by made t) + 1
row_same made t c h = ap length (get_or-set_same made t (made_by made t ++ c ∷ []) [] h) ∙ length-append (made_by made t) (c ∷ [])

pub row_other : (made : List (List ℕ)) (t c u : ℕ) → u ≢ t → made_by (grown made t c) u ≡ made_by made u
row_other made t c u d = get_or-set_other made t u (made_by made t ++ c ∷ []) [] d

-- what was made is still there
place_more : (made : List (List ℕ)) (t c u k : ℕ) → t < length made
    → nat_lt k (length (made_by made u)) ≡ true → nat_lt k (length (made_by (grown made t c) u)) ≡ true
place_more made t c u k h p =
    elim (cases_eq u t) [
      | inl e ↦
          let one = row_same made t c h in
          let len : length (made_by (grown made t c) u) ≡ length (made_by made u) + 1 =
          ap (λ v. length (made_by (grown made t c) v)) e ∙ one ∙ ap (λ v. length (made_by made v) + 1) (sym e) in
          grind (arith, nat_tests, p, len)
      | inr d ↦ ap (λ (r : List ℕ). nat_lt k (length r)) (row_other made t c u d) ∙ p
    ]

either_more : (a b c : Bool) → (b ≡ true → c ≡ true) → (a || b) ≡ true → (a || c) ≡ true
either_more true b c f h = refl
either_more false b c f h = f h

pub there_more : (n : Numbering) (made : List (List ℕ)) (t c o : ℕ) → t < length made → is_there n made o ≡ true → is_there n (grown made t c) o ≡ true
there_more n made t c o h p =
    either_more (nat_lt o (first_made n)) (nat_lt (place_of n o) (length (made_by made (maker_of n o))))
    (nat_lt (place_of n o) (length (made_by (grown made t c) (maker_of n o))))
    (place_more made t c (maker_of n o) (place_of n o) h) p

-- and only the new one more
place_less : (made : List (List ℕ)) (t c u k : ℕ) → t < length made
    → (u ≡ t → k ≢ length (made_by made t)) → nat_lt k (length (made_by (grown made t c) u)) ≡ true
    → nat_lt k (length (made_by made u)) ≡ true
place_less made t c u k h new p =
    elim (cases_eq u t) [
      | inl e ↦
          let one = row_same made t c h in
          let len : length (made_by (grown made t c) u) ≡ length (made_by made u) + 1 =
          ap (λ v. length (made_by (grown made t c) v)) e ∙ one ∙ ap (λ v. length (made_by made v) + 1) (sym e) in
          let d = new e in
          let same = ap (λ v. length (made_by made v)) e in
          grind (arith, nat_tests, p, len, d, same)
      | inr d ↦ ap (λ (r : List ℕ). nat_lt k (length r)) (sym (row_other made t c u d)) ∙ p
    ]

either_less : (a b c : Bool) → (a ≡ false → c ≡ true → b ≡ true) → (a || c) ≡ true → (a || b) ≡ true
either_less true b c f h = refl
either_less false b c f h = f refl h

-- the number of an object that is made, by its maker and its place
pub number_of : (first o u k : ℕ) → first ≤ o → (o - first) / most_made ≡ u → (o - first) % most_made ≡ k → o ≡ first + most_made * u + k
number_of first o u k h p q = omega (arith, p, q)

pub there_less : (n : Numbering) (made : List (List ℕ)) (t c o : ℕ) → t < length made
    → o ≢ made_number n t (length (made_by made t)) → is_there n (grown made t c) o ≡ true
    → is_there n made o ≡ true
there_less n made t c o h other p =
    either_less (nat_lt o (first_made n)) (nat_lt (place_of n o) (length (made_by made (maker_of n o))))
    (nat_lt (place_of n o) (length (made_by (grown made t c) (maker_of n o))))
    (λ late. place_less made t c (maker_of n o) (place_of n o) h
    (λ e k. other (number_of (first_made n) o t (length (made_by made t)) (grind (arith, nat_tests, late)) e k)))
    p

-- a new object has a number that wasn't there, and is there now
pub maker_of_new : (first t k o : ℕ) → k < most_made → o ≡ first + most_made * t + k
    → ((o - first) / most_made ≡ t) × ((o - first) % most_made ≡ k) × (first ≤ o)
maker_of_new first t k o h e = (omega (arith, e), omega (arith, e), omega (arith, e))

-- ENTRIES, by what they make
-- all of these are there
abbrev pub all_there : Numbering → List (List ℕ) → List ℕ → Bool
all_there n made os = list_all (is_there n made) os

pub both_hold : (a b : Bool) → (a && b) ≡ true → (a ≡ true) × (b ≡ true)
both_hold true b h = (refl, h)
both_hold false b h = absurd (cc h)

pub neither_holds : (a b : Bool) → (a || b) ≡ false → (a ≡ false) × (b ≡ false)
neither_holds true b h = absurd (cc h)
neither_holds false b h = (refl, h)

and_holds : (a b : Bool) → a ≡ true → b ≡ true → (a && b) ≡ true
and_holds a b p q = rw (p, q) refl

pub all_more : (n : Numbering) (made : List (List ℕ)) (t c : ℕ) (os : List ℕ)
    → t < length made → all_there n made os ≡ true → all_there n (grown made t c) os ≡ true
all_more n made t c [] h p = refl
all_more n made t c (o ∷ os) h p =
    let b = both_hold (is_there n made o) (all_there n made os) p in
    and_holds (is_there n (grown made t c) o) (all_there n (grown made t c) os) (there_more n made t c o h b.0) (all_more n made t c os h b.1)

all_less : (n : Numbering) (made : List (List ℕ)) (t c i : ℕ) (os : List ℕ) → t < length made
    → i ≡ made_number n t (length (made_by made t)) → list_any (λ o. i == o) os ≡ false
    → all_there n (grown made t c) os ≡ true → all_there n made os ≡ true
all_less n made t c i [] h e d p = refl
all_less n made t c i (o ∷ os) h e d p =
    let b = both_hold (is_there n (grown made t c) o) (all_there n (grown made t c) os) p in
    let f = neither_holds (i == o) (list_any (λ j. i == j) os) d in
    let other : o ≢ made_number n t (length (made_by made t)) = λ s. absurd (grind (arith, nat_tests, f.0, s, e)) in
    and_holds (is_there n made o) (all_there n made os) (there_less n made t c o h other b.0) (all_less n made t c i os h e f.1 b.1)

-- what a New asks
pub record MayCreate (n : Numbering) (made : List (List ℕ)) (t : ℕ) (p : ℕ × ℕ) : Type 0 where
  pub thread : t < length made
  pub room : length (made_by made t) < most_made
  pub class : p.1 < n.classes
  pub number : p.0 ≡ made_number n t (length (made_by made t))

four_hold : (a b c d : Bool) → (((a && b) && c) && d) ≡ true → (a ≡ true) × (b ≡ true) × (c ≡ true) × (d ≡ true)
four_hold true true true true h = (refl, refl, refl, refl)
four_hold true true true false h = absurd (cc h)
four_hold true true false d h = absurd (cc h)
four_hold true false c d h = absurd (cc h)
four_hold false b c d h = absurd (cc h)

pub creating : (n : Numbering) (made : List (List ℕ)) (t : ℕ) (p : ℕ × ℕ) → may_create n made t p ≡ true → MayCreate n made t p
creating n made t p h =
    let a = four_hold (nat_lt t (length made)) (nat_lt (length (made_by made t)) most_made)
    (nat_lt p.1 n.classes) (p.0 == made_number n t (length (made_by made t))) h in
    record {
      thread = grind (arith, nat_tests, a.0);
      room = grind (arith, nat_tests, a.1);
      class = grind (arith, nat_tests, a.2);
      number = grind (arith, nat_tests, a.3);
    }

pub may_be_created : (n : Numbering) (made : List (List ℕ)) (t : ℕ) (p : ℕ × ℕ) → MayCreate n made t p → may_create n made t p ≡ true
may_be_created n made t p m =
    let a : nat_lt t (length made) ≡ true = let h = m.thread in grind (arith, nat_tests, h) in
    let b : nat_lt (length (made_by made t)) most_made ≡ true = let h = m.room in grind (arith, nat_tests, h) in
    let c : nat_lt p.1 n.classes ≡ true = let h = m.class in grind (arith, nat_tests, h) in
    let d : (p.0 == made_number n t (length (made_by made t))) ≡ true = let h = m.number in grind (arith, nat_tests, h) in
    rw (a, b, c, d) refl

-- what is there after an entry that makes p, or none
abbrev pub Turned : Numbering → ℕ → Entry → Option (ℕ × ℕ) → ℕ → Entry → Option (ℕ × ℕ) → List (List ℕ) → List (List ℕ) → Type 0
Turned n t e p u f q before after =
    (other : List (List ℕ)) × (take_created n before u f q ≡ Some other) × (take_created n other t e p ≡ Some after)

grown_length : (made : List (List ℕ)) (t c : ℕ) → length (grown made t c) ≡ length made
grown_length made t c = simp length-set

pub turn : (n : Numbering) (t : ℕ) (e : Entry) (p : Option (ℕ × ℕ)) (u : ℕ) (f : Entry) (q : Option (ℕ × ℕ))
    → t ≢ u → is_one_of (option_map (λ v. v.0) p) (needs f) ≡ false
    → (before middle after : List (List ℕ)) → take_created n before t e p ≡ Some middle
    → take_created n middle u f q ≡ Some after → Turned n t e p u f q before after
turn n t e None u f None d free before middle after h k =
    let a = cond_some (all_there n before (needs e)) before middle h in
    let b = cond_some (all_there n middle (needs f)) middle after k in
    let first : all_there n before (needs f) ≡ true = ap (λ m. all_there n m (needs f)) a.1 ∙ b.0 in
    (before, rw first refl, rw a.0 (ap Some (a.1 ∙ b.1)))
turn n t e None u f (Some q) d free before middle after h k =
    let a = cond_some (all_there n before (needs e)) before middle h in
    let k' : take_created n before u f (Some q) ≡ Some after = ap (λ m. take_created n m u f (Some q)) a.1 ∙ k in
    let b = cond_some (may_create n before u q) (grown before u q.1) after k' in
    let c = creating n before u q b.0 in
    let still : all_there n after (needs e) ≡ true = ap (λ m. all_there n m (needs e)) (sym b.1) ∙ all_more n before u q.1 (needs e) c.thread a.0 in
    (after, k', rw still refl)
turn n t e (Some p) u f None d free before middle after h k =
    let a = cond_some (may_create n before t p) (grown before t p.1) middle h in
    let c = creating n before t p a.0 in
    let b = cond_some (all_there n middle (needs f)) middle after k in
    let there : all_there n (grown before t p.1) (needs f) ≡ true = ap (λ m. all_there n m (needs f)) a.1 ∙ b.0 in
    let first = all_less n before t p.1 p.0 (needs f) c.thread c.number free there in
    (before, rw first refl, h ∙ ap Some b.1)
turn n t e (Some p) u f (Some q) d free before middle after h k =
    let a = cond_some (may_create n before t p) (grown before t p.1) middle h in
    let c = creating n before t p a.0 in
    let k' : take_created n (grown before t p.1) u f (Some q) ≡ Some after = ap (λ m. take_created n m u f (Some q)) a.1 ∙ k in
    let b = cond_some (may_create n (grown before t p.1) u q) (grown (grown before t p.1) u q.1) after k' in
    let g = creating n (grown before t p.1) u q b.0 in
    let row : made_by (grown before t p.1) u ≡ made_by before u = row_other before t p.1 u (λ s. d (sym s)) in
    let row' : made_by (grown before u q.1) t ≡ made_by before t = row_other before u q.1 t d in
    let first : MayCreate n before u q = record {
      thread = let v = g.thread in let w = grown_length before t p.1 in omega (arith, v, w);
      room = subst (λ (r : List ℕ). length r < most_made) row g.room;
      class = g.class;
      number = g.number ∙ ap (λ (r : List ℕ). made_number n u (length r)) row;
    } in
    let second : MayCreate n (grown before u q.1) t p = record {
      thread = let v = c.thread in let w = grown_length before u q.1 in omega (arith, v, w);
      room = subst (λ (r : List ℕ). length r < most_made) (sym row') c.room;
      class = c.class;
      number = c.number ∙ ap (λ (r : List ℕ). made_number n t (length r)) (sym row');
    } in
    let same : grown (grown before u q.1) t p.1 ≡ after =
    ap (λ (r : List ℕ). slice_set (grown before u q.1) t (r ++ p.1 ∷ [])) row'
    ∙ sym (set_comm before t u (made_by before t ++ p.1 ∷ []) (made_by before u ++ q.1 ∷ []) d)
    ∙ ap (λ (r : List ℕ). slice_set (grown before t p.1) u (r ++ q.1 ∷ [])) (sym row)
    ∙ b.1 in (
      grown before u q.1,
      rw (may_be_created n before u q first) refl,
      rw (may_be_created n (grown before u q.1) t p second) (ap Some same),
    )

-- two entries of two threads, where the first doesn't make what the second needs
pub made_turns : (n : Numbering) (z x : ℕ × Logged) → z.0 ≢ x.0 → makes_for z.1.entry x.1.entry ≡ false → TakesTurned (take_made n) z x
made_turns n z x d free before middle after h k =
    turn n z.0 z.1.entry (creates z.1.entry) x.0 x.1.entry (creates x.1.entry) d free before middle after h k
