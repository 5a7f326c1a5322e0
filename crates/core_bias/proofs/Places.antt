-- Where the hold word with depth 1 stands among a thread's hold words, and what a revocation stores in the displaced words.
use Rattle.plain_monitor.specs.Limits.{most_holds}
use Rattle.core_locks.proofs.Prelude.{◌≡◌, ℕ, zero, suc, ◌+◌, ◌<◌, ◌≤◌, ◌==◌, ◌&&◌, ◌++◌, not, eq-eqb, ne_eqb, eqb-true, Bool}
use Rattle.core_locks.proofs.Prelude.{true, false, cond, if◌then◌else◌, List, [], ◌∷◌, length, slice_index, refl, sym, ap, ◌∙◌}
use Rattle.core_locks.proofs.Prelude.{subst, arith, zero-add, add-zero, position_or_len, Neutral, mark_of, WordId, Hold, Displaced}
use Rattle.core_locks.proofs.Prelude.{same_name, with_word, names, hold_word, one_if, count_where, names_none}
use Rattle.core_world.specs.RevocationRules.{Write, write, words_after, words_from, holds_in, record_writes}

-- HOLD WORDS. Those that a revocation reads are those that the thread stored.
words_are : (p : ℕ) (hs : List ℕ) (f : ℕ → ℕ) → ((i : ℕ) → f (p + i) ≡ slice_index hs i) → words_from p (length hs) f ≡ hs
words_are p [] f h = refl
words_are p (y ∷ hs) f h =
    let here : f p ≡ y = ap f (sym (add-zero p)) ∙ h 0 in
    let others = words_are (p + 1) hs f (λ i. let e : p + 1 + i ≡ p + suc i = omega arith in ap f e ∙ h (suc i)) in
    ap (λ z. z ∷ words_from (p + 1) (length hs) f) here ∙ ap (λ zs. y ∷ zs) others

pub holds_are : (f : WordId → ℕ) (t : ℕ) (hs : List ℕ) → length hs ≡ most_holds → ((p : ℕ) → f (Hold t p) ≡ slice_index hs p) → holds_in f t ≡ hs
unfolding holds_in
holds_are f t hs few h = ap (λ n. words_from 0 n (λ p. f (Hold t p))) (sym few)
    ∙ words_are 0 hs (λ p. f (Hold t p)) (λ i. ap (λ p. f (Hold t p)) (zero-add i) ∙ h i)

-- THE WORD y, which stands there once.
module _ (y : ℕ) where
  abbrev count : ℕ → List ℕ → ℕ
  count i hs = count_where (λ p h. h == y) i hs

  abbrev place : List ℕ → ℕ
  place hs = position_or_len (λ h. h == y) hs

  -- it is at its place
  pub placed : (i : ℕ) (hs : List ℕ) → 1 ≤ count i hs → (slice_index hs (place hs) ≡ y) × (place hs < length hs)
  placed i [] h = absurd (omega arith)
  placed i (z ∷ hs) h = cases (z == y) refl h (placed (i + 1) hs)
    where
      cases : (b : Bool) → (z == y) ≡ b → 1 ≤ one_if b + count (i + 1) hs → (1 ≤ count (i + 1) hs → (slice_index hs (place hs) ≡ y) × (place hs < length hs))
          → (slice_index (z ∷ hs) (cond (not b) (1 + place hs) 0) ≡ y) × (cond (not b) (1 + place hs) 0 < length (z ∷ hs))
      cases true e g ih = (eqb-true z y e, omega arith)
      cases false e g ih =
          let r = ih (omega (arith, g)) in
          let at : suc (place hs) ≡ 1 + place hs = omega arith in
          (subst (λ n. slice_index (z ∷ hs) n ≡ y) at r.0, omega (arith, r.1))

  -- where it stands it counts
  counts : (i : ℕ) (hs : List ℕ) (q : ℕ) → q < length hs → slice_index hs q ≡ y → 1 ≤ count i hs
  counts i [] q h e = absurd (omega arith)
  counts i (z ∷ hs) zero h e = omega (arith, ap one_if (eq-eqb z y e))
  counts i (z ∷ hs) (suc q) h e = omega (arith, counts (i + 1) hs q (omega arith) e)

  -- and it stands nowhere else
  pub alone : (i : ℕ) (hs : List ℕ) (q : ℕ) → count i hs ≤ 1 → q < length hs → slice_index hs q ≡ y → q ≡ place hs
  alone i [] q few h e = absurd (omega arith)
  alone i (z ∷ hs) q few h e = cases (z == y) refl q h e few (alone (i + 1) hs)
    where
      cases : (b : Bool) → (z == y) ≡ b → (q : ℕ) → q < length (z ∷ hs) → slice_index (z ∷ hs) q ≡ y → one_if b + count (i + 1) hs ≤ 1
          → ((q : ℕ) → count (i + 1) hs ≤ 1 → q < length hs → slice_index hs q ≡ y → q ≡ place hs) → q ≡ cond (not b) (1 + place hs) 0
      cases true b zero h e g ih = refl
      cases true b (suc q) h e g ih = absurd (omega (arith, g, counts (i + 1) hs q (omega arith) e))
      cases false b zero h e g ih = let c = eq-eqb z y e in absurd (cc (b, c))
      cases false b (suc q) h e g ih = let r = ih q (omega (arith, g)) (omega arith) e in omega (arith, r)

-- what a revocation stores in the displaced word of a record whose hold word is h
abbrev pub displaced_word : ℕ → ℕ → ℕ
displaced_word o h = if h == hold_word o 1 then mark_of (Neutral 0 0) else 0

-- DISPLACED WORDS of t's records of o, of which the first stands at place p.
module _ (o t : ℕ) where
  -- the stores for one record
  abbrev pub here : ℕ → ℕ → Bool → List Write
  here p h b = if b then write (Displaced t p) (displaced_word o h) ∷ [] else []

  -- words of other names stay
  pub record_other : (hs : List ℕ) (p : ℕ) (f : WordId → ℕ) (n : WordId)
      → ((i : ℕ) → same_name n (Displaced t (p + i)) ≡ false) → words_after (record_writes o t p hs) f n ≡ f n
  record_other [] p f n h = refl
  record_other (y ∷ hs) p f n h = cases (names o y) (λ g. record_other hs (p + 1) g n)
    where
      others : (i : ℕ) → same_name n (Displaced t (p + 1 + i)) ≡ false
      others i = let e : p + 1 + i ≡ p + suc i = omega arith in ap (λ z. same_name n (Displaced t z)) e ∙ h (suc i)

      first : same_name n (Displaced t p) ≡ false
      first = ap (λ z. same_name n (Displaced t z)) (sym (add-zero p)) ∙ h 0

      cases : (b : Bool) → ((g : WordId → ℕ) → ((i : ℕ) → same_name n (Displaced t (p + 1 + i)) ≡ false) → words_after (record_writes o t (p + 1) hs) g n ≡ g n)
          → words_after (here p y b ++ record_writes o t (p + 1) hs) f n ≡ f n
      cases true ih = ih (with_word (Displaced t p) (displaced_word o y) f) others ∙ ap (λ (b : Bool). cond b (displaced_word o y) (f n)) first
      cases false ih = ih f others

  -- the word of a record of o is the one that is stored there
  pub record_here : (hs : List ℕ) (p i : ℕ) (f : WordId → ℕ) → names o (slice_index hs i) ≡ true
      → words_after (record_writes o t p hs) f (Displaced t (p + i)) ≡ displaced_word o (slice_index hs i)
  record_here [] p i f e = let none = names_none o in absurd (cc (e, none))
  record_here (y ∷ hs) p zero f e = ap (λ b. words_after (here p y b ++ record_writes o t (p + 1) hs) f (Displaced t (p + 0))) e
      ∙ record_other hs (p + 1) (with_word (Displaced t p) (displaced_word o y) f) (Displaced t (p + 0))
      (λ i. ap (λ (b : Bool). b && (t == t)) (ne_eqb (p + 0) (p + 1 + i) (λ z. omega arith)))
      ∙ (let a = eq-eqb (p + 0) p (add-zero p) in let b = eq-eqb t t refl in λ j. cond (a j && b j) (displaced_word o y) (f (Displaced t (p + 0))))
  record_here (y ∷ hs) p (suc i) f e = cases (names o y) (λ g. record_here hs (p + 1) i g e)
    where
      at : p + 1 + i ≡ p + suc i
      at = omega arith

      cases : (b : Bool) → ((g : WordId → ℕ) → words_after (record_writes o t (p + 1) hs) g (Displaced t (p + 1 + i)) ≡ displaced_word o (slice_index hs i))
          → words_after (here p y b ++ record_writes o t (p + 1) hs) f (Displaced t (p + suc i)) ≡ displaced_word o (slice_index hs i)
      cases true ih = let g = with_word (Displaced t p) (displaced_word o y) f in
          subst (λ z. words_after (record_writes o t (p + 1) hs) g (Displaced t z) ≡ displaced_word o (slice_index hs i)) at (ih g)
      cases false ih = subst (λ z. words_after (record_writes o t (p + 1) hs) f (Displaced t z) ≡ displaced_word o (slice_index hs i)) at (ih f)
