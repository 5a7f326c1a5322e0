-- Counts of verdicts and of holds.
use Rattle.std.proofs.Common.{◌≡◌, ℕ, zero, suc, ◌+◌, ◌<◌, ◌≤◌, ◌==◌, eq-eqb, ne_eqb, List, [], ◌∷◌, ◌++◌}
use Rattle.std.proofs.Common.{length, get_or, take, Bool, true, false, cond, refl, sym, ap, arith}
use Rattle.std.specs.Prelude.{slice_index, slice_set}
use Rattle.lock_policy.specs.declared.policy.Verdict.{Verdict}
use Rattle.core_world.specs.Threads.Counts.{CountedVerdict, counts_of, with_verdict_counted, with_reset, with_verdict}
use Rattle.core_world.specs.Locks.{count_where}
use Rattle.core_world.specs.Threads.Stages.{one_if}
use Rattle.heap_table.specs.Tallies.{capped_counts, counts_shown}
use Rattle.heap_table.specs.declared.counts.ClassCounts.{ClassCounts}

pub counts_length : (i n : ℕ) (k : List CountedVerdict) → length (counts_shown i n k) ≡ n
counts_length i zero k = refl
counts_length i (suc n) k = let h = counts_length (suc i) n k in omega (arith, h)

-- a verdict on a class below these, or above them, changes none of them
counts_above : (i n c : ℕ) (v : Verdict) (r : Bool) (k : List CountedVerdict) → c < i → counts_shown i n (with_verdict_counted k c v r) ≡ counts_shown i n k
counts_above i zero c v r k h = refl
counts_above i (suc n) c v r k h =
    let e : (i == c) ≡ false = ne_eqb i c (λ e. omega (arith, h, e)) in
    λ j. capped_counts (cond (e j) (with_reset (with_verdict (counts_of k i) v) r) (counts_of k i)) ∷ counts_above (suc i) n c v r k (omega (arith, h)) j

pub counts_below : (i n c : ℕ) (v : Verdict) (r : Bool) (k : List CountedVerdict)
    → i + n ≤ c → counts_shown i n (with_verdict_counted k c v r) ≡ counts_shown i n k
counts_below i zero c v r k h = refl
counts_below i (suc n) c v r k h =
    let e : (i == c) ≡ false = ne_eqb i c (λ e. omega (arith, h, e)) in
    λ j. capped_counts (cond (e j) (with_reset (with_verdict (counts_of k i) v) r) (counts_of k i)) ∷ counts_below (suc i) n c v r k (omega (arith, h)) j

pub counts_set : (i n j c : ℕ) (v : Verdict) (r : Bool) (k : List CountedVerdict) → c ≡ i + j
    → slice_set (counts_shown i n k) j (capped_counts (with_reset (with_verdict (counts_of k c) v) r)) ≡ counts_shown i n (with_verdict_counted k c v r)
counts_set i zero j c v r k h = refl
counts_set i (suc n) zero c v r k h =
    let e : (i == c) ≡ true = eq-eqb i c (omega (arith, h)) in
    let f : c ≡ i = omega (arith, h) in
    λ x. capped_counts (cond (sym e x) (with_reset (with_verdict (counts_of k (f x)) v) r) (counts_of k i))
    ∷ sym (counts_above (suc i) n c v r k (omega (arith, h))) x
counts_set i (suc n) (suc j) c v r k h =
    let e : (i == c) ≡ false = ne_eqb i c (λ e. omega (arith, h, e)) in
    λ x. capped_counts (cond (sym e x) (with_reset (with_verdict (counts_of k i) v) r) (counts_of k i)) ∷ counts_set (suc i) n j c v r k (omega (arith, h)) x

pub counts_at : (i n j c : ℕ) (k : List CountedVerdict) (d : ClassCounts) → j < n → c ≡ i + j → get_or (counts_shown i n k) j d ≡ capped_counts (counts_of k c)
counts_at i zero j c k d h e = absurd (omega (arith, h))
counts_at i (suc n) zero c k d h e = let f : i ≡ c = omega (arith, e) in ap (λ x. capped_counts (counts_of k x)) f
counts_at i (suc n) (suc j) c k d h e = counts_at (suc i) n j c k d (omega (arith, h)) (omega (arith, e))

-- a class more
pub counts_more : (i n j : ℕ) (k : List CountedVerdict) → j ≡ i + n → counts_shown i n k ++ capped_counts (counts_of k j) ∷ [] ≡ counts_shown i (suc n) k
counts_more i zero j k e = let f : j ≡ i = omega (arith, e) in ap (λ x. capped_counts (counts_of k x) ∷ []) f
counts_more i (suc n) j k e = ap (λ (l : List ClassCounts). capped_counts (counts_of k i) ∷ l) (counts_more (suc i) n j k (omega (arith, e)))

-- a word more
pub number_more : (test : ℕ → ℕ → Bool) (p i : ℕ) (xs : List ℕ) → i < length xs
    → count_where test p (take (suc i) xs) ≡ count_where test p (take i xs) + one_if (test (p + i) (get_or xs i 0))
number_more test p i [] h = absurd (omega (arith, h))
number_more test p zero (x ∷ xs) h = let e : p + 0 ≡ p = omega arith in omega (arith, ap (λ q. one_if (test q x)) e)
number_more test p (suc i) (x ∷ xs) h =
    let a = number_more test (p + 1) i xs (omega (arith, h)) in
    let e : p + 1 + i ≡ p + suc i = omega arith in
    let b = ap (λ q. one_if (test q (get_or xs i 0))) e in
    omega (arith, a, b)

-- the same once a word was stored
pub number_stored : (test : ℕ → ℕ → Bool) (i : ℕ) (hs : List ℕ) (p x : ℕ) → p < length hs
    → count_where test i (slice_set hs p x) + one_if (test (i + p) (slice_index hs p)) ≡ count_where test i hs + one_if (test (i + p) x)
number_stored test i [] p x h = absurd (omega (arith, h))
number_stored test i (y ∷ hs) zero x h =
    let e : i + 0 ≡ i = omega arith in
    let a = ap (λ k. one_if (test k y)) e in
    let b = ap (λ k. one_if (test k x)) e in omega (arith, a, b)
number_stored test i (y ∷ hs) (suc p) x h =
    let r = number_stored test (i + 1) hs p x (omega (arith, h)) in
    let e : i + 1 + p ≡ i + suc p = omega arith in
    let a = ap (λ k. one_if (test k (slice_index hs p))) e in
    let b = ap (λ k. one_if (test k x)) e in
    omega (arith, r, a, b)

-- at most all
pub number_few : (test : ℕ → ℕ → Bool) (i : ℕ) (hs : List ℕ) → count_where test i hs ≤ length hs
number_few test i [] = omega arith
number_few test i (y ∷ hs) = let r = number_few test (i + 1) hs in let one = at_most (test i y) in omega (arith, r, one)
  where
    at_most : (b : Bool) → one_if b ≤ 1
    at_most true = omega arith
    at_most false = omega arith
