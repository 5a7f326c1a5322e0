-- The owner word of a monitor that a mark names changes: which locks change, and what the thread's records are where its lock rests on one.
use Rattle.core_locks.proofs.Prelude.{◌≡◌, ◌≢◌, ◌⊎◌, ℕ, zero, suc, ◌+◌, ◌<◌, ◌≤◌, ◌==◌, ◌&&◌, eq-eqb, ne_eqb, Bool, true, false, cond, List, []}
use Rattle.core_locks.proofs.Prelude.{◌∷◌, slice_index, Option, Some, None, refl, sym, ap, ◌∙◌, arith, inl, inr, nat_tests, read_mark, read_owner}
use Rattle.core_locks.proofs.Prelude.{read_hold, Holds, Empty, HoldForm, read_hold-spells, PlainObject, Owner, Settled, hold_word, is_deeper}
use Rattle.core_locks.proofs.Prelude.{monitor_in, deeper_form, inflation_in, one_if, with_word, ThreadView, World, Lock, OnRecord, lock, lock_form}
use Rattle.core_locks.proofs.Prelude.{header, header_form, marks, displaced_words, headers, owner_words, prototype_of, inflations, recursion_count}
use Rattle.core_locks.proofs.Prelude.{owner_lock, count_where, Fits, by_equal, inflations_stay, hold_some, inflated_form}
use Rattle.core_locks.proofs.enter_exit.HoldCounts.{hold_tells}
use Rattle.core_locks.proofs.enter_exit.MarkHolds.{number_same}
use Rattle.core_locks.proofs.monitor.UnnamedWords.{lock_unnamed}
use Rattle.core_locks.proofs.Clauses.{AllHold, turned_parts, parts_turn}
use Rattle.core_locks.proofs.LockTurns.{LockTurn, turns_from}
use Rattle.core_locks.proofs.Steps.{Fields, turning, IsStep, next, stepped, step_fits, inflates_stay}

-- LISTS. A word stands at one place, where its number is at most 1.
stands_once : (c : ℕ) (hs : List ℕ) (i p : ℕ) → c ≢ 0 → slice_index hs p ≡ c → 1 ≤ count_where (λ k h. h == c) i hs
stands_once c [] i p some e = absurd (some (sym e))
stands_once c (y ∷ hs) i zero some e = let a = ap one_if (eq-eqb y c e) in omega (arith, a)
stands_once c (y ∷ hs) i (suc p) some e = let a = stands_once c hs (i + 1) p some e in omega (arith, a)

pub one_place : (c : ℕ) (hs : List ℕ) (i p q : ℕ) → c ≢ 0 → count_where (λ k h. h == c) i hs ≤ 1 → slice_index hs p ≡ c → slice_index hs q ≡ c → p ≡ q
one_place c [] i p q some one a b = absurd (some (sym a))
one_place c (y ∷ hs) i zero zero some one a b = refl
one_place c (y ∷ hs) i zero (suc q) some one a b = let d = stands_once c hs (i + 1) q some b in
    let e = ap one_if (eq-eqb y c a) in absurd (omega (arith, d, e, one))
one_place c (y ∷ hs) i (suc p) zero some one a b = let d = stands_once c hs (i + 1) p some a in
    let e = ap one_if (eq-eqb y c b) in absurd (omega (arith, d, e, one))
one_place c (y ∷ hs) i (suc p) (suc q) some one a b = ap suc (one_place c hs (i + 1) p q some (omega (arith, one)) a b)

number_false : (i : ℕ) (hs : List ℕ) → count_where (λ k h. false) i hs ≡ 0
number_false i [] = refl
number_false i (y ∷ hs) = let a = number_false (i + 1) hs in omega (arith, a)

-- a word that names an object above depth 1 is a hold word of it
deeper_is_hold : (o n : ℕ) → is_deeper o n ≡ true → (d : ℕ) × (d ≤ 62) × (n ≡ hold_word o (d + 2))
deeper_is_hold o n e = by_form (read_hold n) refl e
  where
    by_form : (f : Option HoldForm) → read_hold n ≡ f → deeper_form f o ≡ true → (d : ℕ) × (d ≤ 62) × (n ≡ hold_word o (d + 2))
    by_form None r h = absurd (cc h)
    by_form (Some Empty) r h = absurd (cc h)
    by_form (Some (Holds i c)) r h =
        let a = read_hold-spells n (Holds i c) r in
        let both : (i ≡ o) × (1 < c) = grind (arith, nat_tests, h) in
        by_depth c a.0.2 both.1 (a.1 ∙ ap (λ j. hold_word j c) both.0)
      where
        by_depth : (c : ℕ) → c ≤ 64 → 1 < c → n ≡ hold_word o c → (d : ℕ) × (d ≤ 62) × (n ≡ hold_word o (d + 2))
        by_depth zero high low g = absurd (omega (arith, low))
        by_depth (suc zero) high low g = absurd (omega (arith, low))
        by_depth (suc (suc d)) high low g = (d, omega (arith, high), g ∙ ap (hold_word o) (let s : suc (suc d) ≡ d + 2 = omega arith in s))

-- no record counts, where the displaced word of each above depth 1 isn't 3
pub again_zero : (o : ℕ) (f : ℕ → ℕ) (hs : List ℕ)
    → ((q d : ℕ) → d ≤ 62 → slice_index hs q ≡ hold_word o (d + 2) → (f q == 3) ≡ false) → recursion_count o f hs ≡ 0
again_zero o f hs h =
    number_same (λ q n. is_deeper o n && (f q == 3)) (λ q n. false) 0 hs (λ p. by_test p (is_deeper o (slice_index hs p)) refl) ∙ number_false 0 hs
  where
    by_test : (p : ℕ) (b : Bool) → is_deeper o (slice_index hs p) ≡ b → (is_deeper o (slice_index hs p) && (f (0 + p) == 3)) ≡ false
    by_test p false e = ap (λ (b : Bool). b && (f (0 + p) == 3)) e
    by_test p true e =
        let a = deeper_is_hold o (slice_index hs p) e in
        let s : p ≡ 0 + p = omega arith in
        ap (λ (b : Bool). b && (f (0 + p) == 3)) e ∙ ap (λ k. f k == 3) (sym s) ∙ h p a.0 a.1 a.2

-- THE RECORDS of a thread on one of which a lock rests: that one has depth 1, and none counts.
module _ (w : World) (P : List PlainObject) (t o p : ℕ) (v : Fits w P) (rests : lock w o ≡ OnRecord t p) (calm : (w.known t).stage ≡ Settled) where
  pub rest_hold : slice_index (w.known t).holds p ≡ hold_word o 1
  rest_hold = elim (v.records.first o t p rests) [ inl a ↦ a | inr a ↦ absurd (cc (a, calm)) ]

  pub rest_place : (q : ℕ) → slice_index (w.known t).holds q ≡ hold_word o 1 → q ≡ p
  rest_place q h = one_place (hold_word o 1) (w.known t).holds 0 q p (hold_some o 1) (at_most _ (v.holds.each t o 0 (omega arith))) h rest_hold
    where
      at_most : (b : Bool) {n : ℕ} → n ≡ one_if b → n ≤ 1
      at_most true e = omega (arith, e)
      at_most false e = omega (arith, e)

  pub rest_deeper : (q d : ℕ) → d ≤ 62 → slice_index (w.known t).holds q ≡ hold_word o (d + 2) → displaced_words w t q ≡ 0
  rest_deeper q d small h =
      v.records.others o t p q (d + 2) rests h (omega (arith, small))
      (λ s. let e = hold_tells o (d + 2) o 1 (omega (arith, small)) (omega arith) (sym h ∙ ap (slice_index (w.known t).holds) s ∙ rest_hold) in
      omega (arith, e.1))

  pub rest_again : recursion_count o (displaced_words w t) (w.known t).holds ≡ 0
  rest_again = again_zero o (displaced_words w t) (w.known t).holds (λ q d small h. ap (λ n. n == 3) (rest_deeper q d small h))

-- THE LOCKS. The word is stored as the owner of m, which o's mark names; the lock was A, and is B.
abbrev pub owned_locks : World → ℕ → ℕ → ℕ → Lock
owned_locks w m word i = lock_form (read_mark (marks w i)) (prototype_of w i) (λ a. cond (a == m) word (owner_words w a)) (inflations w i)

module _ (w : World) (P : List PlainObject) (o m word : ℕ) (A B : Lock) (v : Fits w P)
    (names : monitor_in (marks w o) ≡ Some m) (was : lock w o ≡ A) (is : owner_lock (read_owner word) ≡ B) where
  lock_now : (i : ℕ) → ((i ≡ o) × (owned_locks w m word i ≡ B)) ⊎ ((i ≢ o) × (owned_locks w m word i ≡ lock w i))
  lock_now i = by_equal i o
      (λ s.
      let form = inflated_form (read_mark (marks w i)) m (ap (λ j. monitor_in (marks w j)) s ∙ names) in
      inl (
        s,
        ap (λ f. lock_form f (prototype_of w i) (λ a. cond (a == m) word (owner_words w a)) (inflations w i)) form
            ∙ ap (λ (b : Bool). owner_lock (read_owner (cond b word (owner_words w m)))) (eq-eqb m m refl) ∙ is,
      ))
      (λ d. inr (
        d,
        lock_unnamed (read_mark (marks w i)) (prototype_of w i) (owner_words w) (λ a. cond (a == m) word (owner_words w a)) (inflations w i)
            (λ a n. ap (λ (b : Bool). cond b word (owner_words w a)) (ne_eqb a m (λ s. d (v.monitors.alone i o m (n ∙ ap Some s) names)))),
      ))

  pub owner_turn : LockTurn w o (owned_locks w m word) A B
  owner_turn = turns_from w o (owned_locks w m word) A B was lock_now

-- and where no inflation begins or ends, these are the locks in the world after the step, and the headers stay
module _ (w : World) (t : ℕ) (fields : Fields) (m word : ℕ) (l : ThreadView)
    (same : (u : ℕ) → inflation_in (fields (u == t) l (w.known u)).stage ≡ inflation_in (w.known u).stage) where
  inflation : inflations (next w t l fields (with_word (Owner m) word w.words)) ≡ inflations w
  inflation = inflations_stay w.shape.threads _ _ (λ j. λ u. same u j)

  pub locks_turn : lock (next w t l fields (with_word (Owner m) word w.words)) ≡ owned_locks w m word
  locks_turn = λ j. λ i. lock_form (read_mark (marks w i)) (prototype_of w i) (λ a. cond (a == m) word (owner_words w a)) (inflation j i)

  pub heads_turn : header (next w t l fields (with_word (Owner m) word w.words)) ≡ header w
  heads_turn = λ j. λ i. header_form (read_mark (marks w i)) (marks w i) (displaced_words w) (headers w) (inflation j i)

-- so every clause holds after the step where it holds with these locks
module _ {w : World} {t : ℕ} {l : ThreadView} (P : List PlainObject) (step : IsStep w t l turning)
    (m word : ℕ) (same : inflation_in l.stage ≡ inflation_in (w.known t).stage) where
  pub owner_turned : AllHold (turned_parts w (next w t l turning (with_word (Owner m) word w.words)) P (owned_locks w m word))
      → Fits (stepped w t l (with_word (Owner m) word w.words)) P
  owner_turned =
      let z : World = next w t l turning (with_word (Owner m) word w.words) in
      let stay = inflates_stay step same in
      step_fits step (with_word (Owner m) word w.words) P (turned_parts w z P (owned_locks w m word))
      (parts_turn w z P (owned_locks w m word) refl (λ u. refl) stay (locks_turn w t turning m word l stay) (heads_turn w t turning m word l stay) refl)
