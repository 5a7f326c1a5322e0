-- Hold words that stand as they were taken, one on the other.
use Rattle.std.proofs.Common.{◌≡◌, ◌≢◌, ℕ, zero, suc, ◌+◌, ◌-◌, ◌/◌, ◌%◌, ◌^◌, ◌<◌, ◌≤◌, ◌==◌, nat_lt, ne_eqb, eq-eqb}
use Rattle.std.proofs.Common.{not, List, [], ◌∷◌, length, get_or, take, Bool, true, false, refl, sym, ap, ◌∙◌, subst, arith}
use Rattle.std.proofs.Common.{get_or-set_other, get_or-set_same}
use Rattle.std.specs.Prelude.{slice_set}
use Rattle.std.proofs.lemmas.Bool.Decides.{nat_tests}
use Rattle.std.proofs.lemmas.List.{length-take, take-set-le}
use Rattle.std.proofs.lemmas.List.Sums.{position_or_len_is}
use Rattle.core_world.specs.Locks.{count_where, hold_count}
use Rattle.core_world.specs.Threads.Stages.{one_if}
use Rattle.core_world.specs.Trees.Plans.{free_place, top_place}
use Rattle.core_world.specs.Words.Forms.{hold_word, names}
use Rattle.heap_table.specs.Held.{ComesAfter, IsEmptyFrom, IsStacked}
use Rattle.heap_table.proofs.Counting.{number_few, number_more}
use Rattle.heap_table.proofs.Held.{named_as, none_named, number_used}

-- the word of an object names it
named : (o d : ℕ) → o < 2 ^ 15 → 0 < d → d ≤ 64 → names o (hold_word o d) ≡ true
named o d low deep few = sym (named_as o (hold_word o d)) ∙ grind (arith, nat_tests)

-- among more words at least as many
more_counted : (test : ℕ → ℕ → Bool) (p i j : ℕ) (xs : List ℕ) → i ≤ j → count_where test p (take i xs) ≤ count_where test p (take j xs)
more_counted test p zero j xs h = omega arith
more_counted test p (suc i) zero xs h = absurd (omega (arith, h))
more_counted test p (suc i) (suc j) [] h = omega arith
more_counted test p (suc i) (suc j) (x ∷ xs) h = let rest = more_counted test (p + 1) i j xs (omega (arith, h)) in omega (arith, rest)

-- of so many words at most all
few_before : (o i : ℕ) (hs : List ℕ) → hold_count o (take i hs) ≤ i
few_before o i hs =
    let few = number_few (λ p h. names o h) 0 (take i hs) in
    let n = length-take i hs in
    omega (arith, few, n)

module _ (n : ℕ) (hs : List ℕ) (stacked : IsStacked n hs) (fits : n ≤ 64) (within : n ≤ length hs) where
  -- the word at a place is counted
  counted : (i : ℕ) (l : i < n) → let o = get_or hs i 0 / 128 - 1 in hold_count o (take (suc i) hs) ≡ hold_count o (take i hs) + 1
  counted i l =
      let o = get_or hs i 0 / 128 - 1 in
      let s = stacked i l in
      let few = few_before o i hs in
      let more = number_more (λ p h. names o h) 0 i hs (omega (arith, l, within)) in
      let is : names o (get_or hs i 0) ≡ true = ap (names o) s.1 ∙ named o _ s.0 (omega arith) (omega (arith, few, l, fits)) in
      let one : one_if (names o (get_or hs i 0)) ≡ 1 = ap one_if is in
      omega (arith, more, one)

  -- no two words are the same
  pub apart : (k j : ℕ) → k < j → j < n → get_or hs k 0 ≢ get_or hs j 0
  apart k j before l same =
      let o = get_or hs k 0 / 128 - 1 in
      let s = stacked k (omega (arith, before, l)) in
      let t = stacked j l in
      let object : get_or hs j 0 / 128 - 1 ≡ o = ap (λ (h : ℕ). h / 128 - 1) (sym same) in
      let again = ap (λ o. hold_word o (hold_count o (take j hs) + 1)) object in
      let both : hold_word o (hold_count o (take k hs) + 1) ≡ hold_word o (hold_count o (take j hs) + 1) = sym s.1 ∙ same ∙ t.1 ∙ again in
      let deep = counted k (omega (arith, before, l)) in
      let more = more_counted (λ p h. names o h) 0 (suc k) j hs (omega (arith, before)) in
      omega (arith, both, deep, more)

  -- none is empty
  pub none_empty : (k : ℕ) → k < n → get_or hs k 0 ≢ 0
  none_empty k l same = let s = (stacked k l).1 in omega (arith, s, same)

  -- so there are as many as places in use,
  filled : (i : ℕ) → i ≤ n → count_where (λ p h. not (h == 0)) 0 (take i hs) ≡ i
  filled zero l = refl
  filled (suc i) l =
      let before = filled i (omega (arith, l)) in
      let more = number_more (λ p h. not (h == 0)) 0 i hs (omega (arith, l, within)) in
      let one : one_if (not (get_or hs i 0 == 0)) ≡ 1 = ap (λ b. one_if (not b)) (ne_eqb _ _ (none_empty i (omega (arith, l)))) in
      omega (arith, before, more, one)

  pub number_stacked : IsEmptyFrom n hs → count_where (λ p h. not (h == 0)) 0 hs ≡ n
  number_stacked empty = sym (number_used (λ h. not (h == 0)) 0 n hs refl empty) ∙ filled n (omega arith)

  -- and the lowest empty place is the one past them
  pub free_past : IsEmptyFrom n hs → free_place hs ≡ n
  free_past empty = position_or_len_is (λ h. h == 0) hs n 0 within (λ k l. ne_eqb _ _ (none_empty k l)) (λ l. eq-eqb _ _ (empty n (omega arith)))

  -- the newest hold tells how many its object has
  pub newest_tells : IsEmptyFrom n hs → (o : ℕ) → 0 < n → get_or hs (n - 1) 0 / 128 ≡ o + 1
      → (hold_count o hs ≡ get_or hs (n - 1) 0 % 128) × (get_or hs (n - 1) 0 ≡ hold_word o (hold_count o hs)) × (0 < hold_count o hs)
  newest_tells empty o some same =
      let last = n - 1 in
      let word = get_or hs last 0 in
      let l : last < n = omega (arith, some) in
      let object : word / 128 - 1 ≡ o = omega (arith, same) in
      let is : word ≡ hold_word o (hold_count o (take last hs) + 1) =
      (stacked last l).1 ∙ ap (λ o. hold_word o (hold_count o (take last hs) + 1)) object in
      let few = few_before o last hs in
      let deep : hold_count o (take (suc last) hs) ≡ hold_count o (take last hs) + 1 =
      subst (λ p. hold_count p (take (suc last) hs) ≡ hold_count p (take last hs) + 1) object (counted last l) in
      let next : suc last ≡ n = omega (arith, some) in
      let all = ap (λ i. hold_count o (take i hs)) next in
      let used = number_used (λ h. names o h) 0 n hs (none_named o) empty in
      (omega (arith, is, few, l, fits, deep, all, used), omega (arith, is, deep, all, used), omega (arith, deep, all, used))

  -- and it is the only one with its word
  pub newest_place : (o : ℕ) → 0 < n → get_or hs (n - 1) 0 ≡ hold_word o (hold_count o hs) → top_place o hs ≡ n - 1
  newest_place o some is =
      position_or_len_is (λ h. h == hold_word o (hold_count o hs)) hs (n - 1) 0 (omega (arith, within))
      (λ k l. ne_eqb _ _ (λ same. apart k (n - 1) l (omega (arith, some)) (same ∙ sym is))) (λ l. eq-eqb _ _ is)

-- those before a place that is stored to stay so
pub stacked_before : (m p x : ℕ) (hs : List ℕ) → IsStacked m hs → m ≤ p → IsStacked m (slice_set hs p x)
stacked_before m p x hs stacked before = λ i l.
    let other : i ≢ p = λ e. omega (arith, l, before, e) in
    subst (ComesAfter (take i (slice_set hs p x))) (sym (get_or-set_other hs p i x 0 other))
    (subst (λ ys. ComesAfter ys (get_or hs i 0)) (sym (take-set-le i hs p x (omega (arith, l, before)))) (stacked i l))

-- where the last is cleared, the words from there on are empty
pub empty_past : (n p : ℕ) (hs : List ℕ) → IsEmptyFrom n hs → p + 1 ≡ n → p < length hs → IsEmptyFrom p (slice_set hs p 0)
empty_past n p hs empty last within = λ i l. at i l (nat_lt p i) refl
  where
    at : (i : ℕ) → p ≤ i → (b : Bool) → nat_lt p i ≡ b → get_or (slice_set hs p 0) i 0 ≡ 0
    at i l true e =
        let past : p < i = grind (arith, nat_tests) in
        get_or-set_other hs p i 0 0 (λ e. omega (arith, past, e)) ∙ empty i (omega (arith, last, past))
    at i l false e =
        let here : i ≡ p = grind (arith, nat_tests) in
        ap (λ j. get_or (slice_set hs p 0) j 0) here ∙ get_or-set_same hs p 0 0 within

-- one hold more
pub stacked_more : (n o w : ℕ) (hs : List ℕ) → IsStacked n hs → IsEmptyFrom n hs → n < length hs → n < 64 → o < 2 ^ 15
    → w ≡ hold_word o (hold_count o hs + 1) → IsStacked (n + 1) (slice_set hs n w)
stacked_more n o w hs stacked empty within fits low is = λ i l. at i l (nat_lt i n) refl
  where
    here : ComesAfter (take n (slice_set hs n w)) (get_or (slice_set hs n w) n 0)
    here =
        let used = number_used (λ h. names o h) 0 n hs (none_named o) empty in
        let few = few_before o n hs in
        let object : o ≡ w / 128 - 1 = omega (arith, is, used, few, fits) in
        let word : w ≡ hold_word o (hold_count o (take n hs) + 1) = omega (arith, is, used) in
        subst (ComesAfter (take n (slice_set hs n w))) (sym (get_or-set_same hs n w 0 within))
        (subst (λ ys. ComesAfter ys w) (sym (take-set-le n hs n w (omega arith)))
        (omega (arith, low, object), word ∙ ap (λ o. hold_word o (hold_count o (take n hs) + 1)) object))

    at : (i : ℕ) → i < n + 1 → (b : Bool) → nat_lt i n ≡ b → ComesAfter (take i (slice_set hs n w)) (get_or (slice_set hs n w) i 0)
    at i l true e = stacked_before n n w hs stacked (omega arith) i (grind (arith, nat_tests))
    at i l false e =
        let last : n ≡ i = grind (arith, nat_tests) in
        subst (λ i. ComesAfter (take i (slice_set hs n w)) (get_or (slice_set hs n w) i 0)) last here
