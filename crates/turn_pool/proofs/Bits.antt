-- Bits of words, and lists of words.
use Rattle.std.proofs.Common.{◌≡◌, ◌≢◌, ◌⊎◌, ℕ, Bool, true, false, nat_eq, not, MatchBool, subst, rules}
use Rattle.std.proofs.Common.{◌/◌, ◌-◌, ◌^◌, ◌<◌, ◌≤◌, sym, ap, ◌∙◌, ⊎_elim, inl, inr, arith}
use mathlib.Core.Logic.{dite}
use native.Mathlib.Decide.{ℕ_discrete, dec_le}
use mir.Syntax.{w64}
use Rattle.std.specs.Int.{bit_at}
use Rattle.std.specs.Int.Bits.{bit_and, bit_or}
use Rattle.std.proofs.lemmas.Nat.Bits.{shr_and_one, bit_at-lt, bit_at_and, bit_at_or, bit_at_ones, bit_at_ones_above}
use Rattle.std.proofs.lemmas.Nat.Bits.{same_from_bits, bit_at-pow_same, bit_at_clear_same, bit_at_clear_other}
use Rattle.turn_pool.specs.inner.Pooled.{all_but}
use Rattle.turn_pool.specs.Standstill.{InEither}

pub same_or : (i k : ℕ) → (i ≡ k) ⊎ (i ≢ k)
same_or i k = dite (ℕ_discrete i k) (λ e. inl e) (λ n. inr n)

pub below_or : (k n : ℕ) → (k < n) ⊎ (n ≤ k)
below_or k n = dite (dec_le n k) (λ (h : n ≤ k). inr h) (λ (d : ¬ (n ≤ k)). inl (omega (arith, d)))

pub none_or_one : (x i : ℕ) → (bit_at x i ≡ 0) ⊎ (bit_at x i ≡ 1)
none_or_one x i = let h = bit_at-lt x i in ⊎_elim (λ (e : bit_at x i ≡ 0). inl e) (λ (n : bit_at x i ≢ 0). inr (omega (arith, h, n))) (same_or (bit_at x i) 0)

pub all_but_same : (j k : ℕ) → j < 64 → k < 64 → all_but k ≡ all_but j → j ≡ k
all_but_same j k lj lk e = ⊎_elim (λ (h : j ≡ k). h)
    (λ (n : j ≢ k).
    let here = bit_at_clear_same w64 (2 ^ j) j lj in
    let there = bit_at_clear_other w64 (2 ^ j) k lk j lj n in
    let one = bit_at-pow_same j in
    let both = ap (λ (m : ℕ). bit_at (bit_and (2 ^ j) m) j) e in
    absurd (omega (arith, sym here ∙ sym both ∙ there ∙ one)))
    (same_or j k)

-- where a word has all of the first n bits, each of two words that make it has the bit, or the other
pub in_either : (n a b : ℕ) → bit_and (bit_or a b) (2 ^ n - 1) ≡ 2 ^ n - 1 → (i : ℕ) → i < n → InEither i a b
in_either n a b e i li =
    let all = bit_at_ones n i li in
    let both = sym (bit_at_and (bit_or a b) (2 ^ n - 1) i) ∙ ap (λ (m : ℕ). bit_at m i) e ∙ all in
    let one = bit_at_or a b i in
    ⊎_elim
    (λ (z : bit_at a i ≡ 0). inr (let l = bit_at-lt b i in omega (arith, all, both, one, z, l)))
    (λ (o : bit_at a i ≡ 1). inl o)
    (none_or_one a i)

-- and conversely
pub all_stand : (n x : ℕ) → ((i : ℕ) → i < n → bit_at x i ≡ 1) → bit_and x (2 ^ n - 1) ≡ 2 ^ n - 1
all_stand n x each = same_from_bits (bit_and x (2 ^ n - 1)) (2 ^ n - 1) (λ i.
    let both = bit_at_and x (2 ^ n - 1) i in
    ⊎_elim
    (λ (lt : i < n). let one = bit_at_ones n i lt in let here = each i lt in omega (arith, both, one, here))
    (λ (le : n ≤ i). let none = bit_at_ones_above n i le in omega (arith, both, none))
    (below_or i n))

pub either_stands : (a b i : ℕ) → InEither i a b → bit_at (bit_or a b) i ≡ 1
either_stands a b i h =
    let both = bit_at_or a b i in
    let one = bit_at-lt a i in
    let other = bit_at-lt b i in
    ⊎_elim (λ (x : bit_at a i ≡ 1). omega (arith, both, other, x)) (λ (x : bit_at b i ≡ 1). omega (arith, both, one, x)) h

-- what a bit says, by the test for it that code makes
pub by_bit : {A B : Type 0} (n k : ℕ) → (bit_at n k ≡ 1 → A) → (bit_at n k ≡ 0 → B) → MatchBool (nat_eq (bit_and (n / 2 ^ k) 1) 1) A B
by_bit {A} {B} n k on off =
    let same : bit_and (n / 2 ^ k) 1 ≡ bit_at n k = shr_and_one n k in
    ⊎_elim
    (λ (z : bit_at n k ≡ 0). subst (λ (m : ℕ). MatchBool (nat_eq m 1) A B) (sym (same ∙ z)) (off z))
    (λ (o : bit_at n k ≡ 1). subst (λ (m : ℕ). MatchBool (nat_eq m 1) A B) (sym (same ∙ o)) (on o))
    (none_or_one n k)

-- what is known of two words by the test whether they are equal
pub by_word : {A B : Type 0} (n m : ℕ) → (n ≡ m → A) → (n ≢ m → B) → MatchBool (nat_eq n m) A B
by_word {A} {B} n m on off = ⊎_elim
    (λ (e : n ≡ m). let t : nat_eq n m ≡ true = search (rules, arith, e) in subst (λ (b : Bool). MatchBool b A B) (sym t) (on e))
    (λ (d : n ≢ m). let f : nat_eq n m ≡ false = search (rules, arith, d) in subst (λ (b : Bool). MatchBool b A B) (sym f) (off d))
    (same_or n m)

-- and by the test whether a word is not 0
pub by_some : {A B : Type 0} (n : ℕ) → (0 < n → A) → (n ≡ 0 → B) → MatchBool (not (nat_eq n 0)) A B
by_some {A} {B} n on off = ⊎_elim
    (λ (e : n ≡ 0). subst (λ (m : ℕ). MatchBool (not (nat_eq m 0)) A B) (sym e) (off e))
    (λ (d : n ≢ 0). let f : nat_eq n 0 ≡ false = search (rules, arith, d) in subst (λ (b : Bool). MatchBool (not b) A B) (sym f) (on (omega (arith, d))))
    (same_or n 0)
