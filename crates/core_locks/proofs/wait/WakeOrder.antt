-- The trees of notify and notifyAll supply what their laws ask: the list of the waiters by age, of words that were seen, has the oldest first.
use Rattle.core_locks.proofs.Prelude.{◌≡◌, ◌≢◌, ◌⊎◌, ℕ, zero, suc, ◌+◌, ◌<◌, ◌≤◌, ◌==◌, ◌&&◌, ◌||◌, nat_lt, eq-eqb, ne_eqb, Bool}
use Rattle.core_locks.proofs.Prelude.{true, false, cond, List, [], ◌∷◌, length, slice_index, Some, refl, sym, ap, ◌∙◌, subst}
use Rattle.core_locks.proofs.Prelude.{arith, inl, inr, nat_tests, same_Some, Waiting, waits_on, stamp_in, ThreadView, last_seen}
use Rattle.core_locks.proofs.Prelude.{is_older, insert_waiter, by_age, waiters, by_equal, SawNoOtherWaiter, SawOldest}

abbrev pub In : ℕ × ℕ → List (ℕ × ℕ) → Type 0
In q [] = ⊥
In q (p ∷ ps) = (q ≡ p) ⊎ In q ps

-- no two have one number
abbrev Distinct : List (ℕ × ℕ) → Type 0
Distinct [] = Unit {0}
Distinct (p ∷ ps) = ((q : ℕ × ℕ) → In q ps → p.0 ≢ q.0) × Distinct ps

abbrev pub OldestFirst : List (ℕ × ℕ) → Type 0
OldestFirst [] = Unit {0}
OldestFirst (p ∷ ps) = ((q : ℕ × ℕ) → In q ps → is_older p q ≡ true) × OldestFirst ps

older_than : (a b c x y z : ℕ) → (nat_lt a b || ((a == b) && nat_lt x y)) ≡ true
    → (nat_lt b c || ((b == c) && nat_lt y z)) ≡ true → (nat_lt a c || ((a == c) && nat_lt x z)) ≡ true
older_than a b c x y z h k = grind (arith, nat_tests)

or_older : (a b x y : ℕ) → x ≢ y → (nat_lt a b || ((a == b) && nat_lt x y)) ≡ false → (nat_lt b a || ((b == a) && nat_lt y x)) ≡ true
or_older a b x y d h = by_order (nat_lt x y) refl
  where
    by_order : (c : Bool) → nat_lt x y ≡ c → (nat_lt b a || ((b == a) && nat_lt y x)) ≡ true
    by_order true e = grind (arith, nat_tests)
    by_order false e = let less : y < x = (let f : y ≤ x = grind (arith, nat_tests) in omega (arith, f, d)) in grind (arith, nat_tests)

-- SORTING keeps who is listed
in_insert : (p q : ℕ × ℕ) (ps : List (ℕ × ℕ)) → In q (insert_waiter p ps) → (q ≡ p) ⊎ In q ps
in_insert p q [] h = h
in_insert p q (r ∷ ps) h = by_test (in_insert p q ps) (is_older p r) h
  where
    by_test : (In q (insert_waiter p ps) → (q ≡ p) ⊎ In q ps) → (b : Bool) → In q (cond b (p ∷ r ∷ ps) (r ∷ insert_waiter p ps)) → (q ≡ p) ⊎ In q (r ∷ ps)
    by_test ih true k = k
    by_test ih false (inl e) = inr (inl e)
    by_test ih false (inr k) = elim (ih k) [ inl e ↦ inl e | inr e ↦ inr (inr e) ]

insert_in : (p q : ℕ × ℕ) (ps : List (ℕ × ℕ)) → (q ≡ p) ⊎ In q ps → In q (insert_waiter p ps)
insert_in p q [] h = h
insert_in p q (r ∷ ps) h = by_test (insert_in p q ps) (is_older p r) h
  where
    by_test : ((q ≡ p) ⊎ In q ps → In q (insert_waiter p ps)) → (b : Bool) → (q ≡ p) ⊎ In q (r ∷ ps) → In q (cond b (p ∷ r ∷ ps) (r ∷ insert_waiter p ps))
    by_test ih true k = k
    by_test ih false (inl e) = inr (ih (inl e))
    by_test ih false (inr (inl e)) = inl e
    by_test ih false (inr (inr k)) = inr (ih (inr k))

insert_sorted : (p : ℕ × ℕ) (ps : List (ℕ × ℕ)) → ((q : ℕ × ℕ) → In q ps → p.0 ≢ q.0) → OldestFirst ps → OldestFirst (insert_waiter p ps)
insert_sorted p [] d h = (λ q k. absurd k, tt)
insert_sorted p (r ∷ ps) d h = by_test (insert_sorted p ps (λ q k. d q (inr k)) h.1) (is_older p r) refl
  where
    by_test : OldestFirst (insert_waiter p ps) → (b : Bool) → is_older p r ≡ b → OldestFirst (cond b (p ∷ r ∷ ps) (r ∷ insert_waiter p ps))
    by_test ih true e = (λ q k. elim k [ inl s ↦ ap (is_older p) s ∙ e | inr s ↦ older_than p.1 r.1 q.1 p.0 r.0 q.0 e (h.0 q s) ], h)
    by_test ih false e = (
      λ q k. elim (in_insert p q ps k) [
        | inl s ↦ ap (is_older r) s ∙ or_older p.1 r.1 p.0 r.0 (d r (inl refl)) e
        | inr s ↦ h.0 q s
      ],
      ih,
    )

in_age : (q : ℕ × ℕ) (ps : List (ℕ × ℕ)) → In q (by_age ps) → In q ps
in_age q [] h = h
in_age q (p ∷ ps) h = elim (in_insert p q (by_age ps) h) [ inl e ↦ inl e | inr e ↦ inr (in_age q ps e) ]

age_in : (q : ℕ × ℕ) (ps : List (ℕ × ℕ)) → In q ps → In q (by_age ps)
age_in q [] h = h
age_in q (p ∷ ps) (inl e) = insert_in p q (by_age ps) (inl e)
age_in q (p ∷ ps) (inr k) = insert_in p q (by_age ps) (inr (age_in q ps k))

age_sorted : (ps : List (ℕ × ℕ)) → Distinct ps → OldestFirst (by_age ps)
age_sorted [] d = tt
age_sorted (p ∷ ps) d = insert_sorted p (by_age ps) (λ q k. d.0 q (in_age q ps k)) (age_sorted ps d.1)

-- THE WAITERS of words
in_waiters : (o t : ℕ) (ws : List ℕ) (q : ℕ × ℕ) → In q (waiters o t ws)
    → (i : ℕ) × (q.0 ≡ t + i) × (i < length ws) × (waits_on (slice_index ws i) o ≡ true) × (q.1 ≡ stamp_in (slice_index ws i))
in_waiters o t [] q h = absurd h
in_waiters o t (w ∷ ws) q h =
    by_test (λ k. let a = in_waiters o (t + 1) ws q k in (suc a.0, omega (arith, a.1), omega (arith, a.2), a.3, a.4)) (waits_on w o) refl h
  where
    by_test : (In q (waiters o (t + 1) ws) → (i : ℕ) × (q.0 ≡ t + i) × (i < length (w ∷ ws))
        × (waits_on (slice_index (w ∷ ws) i) o ≡ true) × (q.1 ≡ stamp_in (slice_index (w ∷ ws) i)))
        → (b : Bool) → waits_on w o ≡ b → In q (cond b ((t, stamp_in w) ∷ waiters o (t + 1) ws) (waiters o (t + 1) ws))
        → (i : ℕ) × (q.0 ≡ t + i) × (i < length (w ∷ ws)) × (waits_on (slice_index (w ∷ ws) i) o ≡ true) × (q.1 ≡ stamp_in (slice_index (w ∷ ws) i))
    by_test later true e (inl s) = (0, omega (arith, ap (λ (p : ℕ × ℕ). p.0) s), omega arith, e, ap (λ (p : ℕ × ℕ). p.1) s)
    by_test later true e (inr k) = later k
    by_test later false e k = later k

waiters_in : (o t : ℕ) (ws : List ℕ) (i : ℕ) → i < length ws → waits_on (slice_index ws i) o ≡ true → In (t + i, stamp_in (slice_index ws i)) (waiters o t ws)
waiters_in o t [] i h k = absurd (omega (arith, h))
waiters_in o t (w ∷ ws) zero h k =
    let same : t + 0 ≡ t = omega arith in
    subst (λ (b : Bool). In (t + 0, stamp_in w) (cond b ((t, stamp_in w) ∷ waiters o (t + 1) ws) (waiters o (t + 1) ws)))
    (sym k) (inl (λ j. (same j, stamp_in w)))
waiters_in o t (w ∷ ws) (suc i) h k =
    let same : t + 1 + i ≡ t + suc i = omega arith in
    by_test (waits_on w o) (subst (λ n. In (n, stamp_in (slice_index ws i)) (waiters o (t + 1) ws)) same (waiters_in o (t + 1) ws i (omega (arith, h)) k))
  where
    by_test : (b : Bool) → In (t + suc i, stamp_in (slice_index ws i)) (waiters o (t + 1) ws)
        → In (t + suc i, stamp_in (slice_index ws i)) (cond b ((t, stamp_in w) ∷ waiters o (t + 1) ws) (waiters o (t + 1) ws))
    by_test true m = inr m
    by_test false m = m

waiters_distinct : (o t : ℕ) (ws : List ℕ) → Distinct (waiters o t ws)
waiters_distinct o t [] = tt
waiters_distinct o t (w ∷ ws) = by_test (waiters_distinct o (t + 1) ws) (waits_on w o)
  where
    by_test : Distinct (waiters o (t + 1) ws) → (b : Bool) → Distinct (cond b ((t, stamp_in w) ∷ waiters o (t + 1) ws) (waiters o (t + 1) ws))
    by_test ih true = (λ q k e. let a = in_waiters o (t + 1) ws q k in omega (arith, e, a.1), ih)
    by_test ih false = ih

-- By what was seen last of the waiting words of n threads, those who wait on o are the listed ones, with these stamps, the oldest first.
pub record Remain (n : ℕ) (k : ThreadView) (o : ℕ) (ps : List (ℕ × ℕ)) : Type 0 where
  pub sights : (z : ℕ) → z < n → (y : ℕ) × (last_seen (Waiting z) k.seen ≡ Some y) × (waits_on y o ≡ true → In (z, stamp_in y) ps)
  pub each : (q : ℕ × ℕ) → In q ps → (y : ℕ) × (last_seen (Waiting q.0) k.seen ≡ Some y) × (waits_on y o ≡ true) × (q.1 ≡ stamp_in y)
  pub sorted : OldestFirst ps

-- So it is after the look at all words.
pub all_remain : (n : ℕ) (k : ThreadView) (o : ℕ) (words : List ℕ) → length words ≡ n
    → ((z : ℕ) → z < n → last_seen (Waiting z) k.seen ≡ Some (slice_index words z)) → Remain n k o (by_age (waiters o 0 words))
all_remain n k o words many saw = record {
  sights = λ z h. (
    slice_index words z,
    saw z h,
    λ waits. age_in _ (waiters o 0 words) (
        let same : 0 + z ≡ z = omega arith in
        subst (λ m. In (m, stamp_in (slice_index words z)) (waiters o 0 words)) same (waiters_in o 0 words z (omega (arith, many, h)) waits)
        ),
  );
  each = λ q h.
      let a = in_waiters o 0 words q (in_age q (waiters o 0 words) h) in
      let is : q.0 ≡ a.0 = omega (arith, a.1) in
      (slice_index words a.0, ap (λ m. last_seen (Waiting m) k.seen) is ∙ saw a.0 (omega (arith, a.2, many)), a.3, a.4);
  sorted = age_sorted (waiters o 0 words) (waiters_distinct o 0 words);
}

-- The first is the oldest; alone, it is the last.
pub oldest_seen : (n : ℕ) (k : ThreadView) (o : ℕ) (p : ℕ × ℕ) (ps : List (ℕ × ℕ)) → Remain n k o (p ∷ ps) → SawOldest n k o p.0
oldest_seen n k o p ps h =
    let mine = h.each p (inl refl) in
    record {
      word = mine.0;
      saw = mine.1;
      waits = mine.2;
      oldest = λ z low.
          let a = h.sights z low in (
            a.0,
            a.1,
            λ waits. elim (a.2 waits) [
              | inl e ↦ inl (ap (λ (q : ℕ × ℕ). q.0) e)
              | inr e ↦ inr ((λ i. is_older (p.0, sym mine.3 i) (z, stamp_in a.0)) ∙ h.sorted.0 (z, stamp_in a.0) e)
            ],
          );
    }

pub no_other_seen : (n : ℕ) (k : ThreadView) (o : ℕ) (p : ℕ × ℕ) → Remain n k o (p ∷ []) → SawNoOtherWaiter n k o p.0
no_other_seen n k o p h z low = let a = h.sights z low in (a.0, a.1, λ waits. elim (a.2 waits) [ inl e ↦ ap (λ (q : ℕ × ℕ). q.0) e | inr e ↦ absurd e ])

-- After the store that tells the first, the others remain.
pub others_remain : (n : ℕ) (k l : ThreadView) (o word : ℕ) (p : ℕ × ℕ) (ps : List (ℕ × ℕ))
    → ((z : ℕ) → last_seen (Waiting z) l.seen ≡ cond (z == p.0) (Some word) (last_seen (Waiting z) k.seen))
    → waits_on word o ≡ false → Remain n k o (p ∷ ps) → Remain n l o ps
others_remain n k l o word p ps now quiet h = record {
  sights = λ z low. by_equal z p.0
      (λ e. (word, now z ∙ ap (λ (b : Bool). cond b (Some word) (last_seen (Waiting z) k.seen)) (eq-eqb z p.0 e), λ waits. absurd (cc (quiet, waits))))
      (λ d.
      let a = h.sights z low in (
        a.0,
        now z ∙ ap (λ (b : Bool). cond b (Some word) (last_seen (Waiting z) k.seen)) (ne_eqb z p.0 d) ∙ a.1,
        λ waits. elim (a.2 waits) [ inl e ↦ absurd (d (ap (λ (q : ℕ × ℕ). q.0) e)) | inr e ↦ e ],
      ));
  each = λ q m.
      let a = h.each q (inr m) in
      let mine = h.each p (inl refl) in
      let d : q.0 ≢ p.0 = λ e.
      let same : mine.0 ≡ a.0 = same_Some _ _ (sym mine.1 ∙ ap (λ z. last_seen (Waiting z) k.seen) (sym e) ∙ a.1) in
      let stamp : p.1 ≡ q.1 = mine.3 ∙ ap stamp_in same ∙ sym a.3 in
      itself p.1 p.0 ((λ i. nat_lt p.1 (stamp i) || ((p.1 == stamp i) && nat_lt p.0 (sym e i))) ∙ h.sorted.0 q m) in
      (a.0, now q.0 ∙ ap (λ (b : Bool). cond b (Some word) (last_seen (Waiting q.0) k.seen)) (ne_eqb q.0 p.0 d) ∙ a.1, a.2, a.3);
  sorted = h.sorted.1;
}
  where
    itself : (a x : ℕ) → (nat_lt a a || ((a == a) && nat_lt x x)) ≡ true → ⊥
    itself a x h = grind (arith, nat_tests)
