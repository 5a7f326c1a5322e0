-- How many hold words pass a test where one is stored in an empty place, and where one is cleared.
use Rattle.plain_monitor.specs.Limits.{most_holds}
use Rattle.core_locks.proofs.Prelude.{◌≡◌, ◌≢◌, ℕ, zero, suc, ◌+◌, ◌<◌, ◌≤◌, ◌^◌, ◌==◌, ◌&&◌, nat_lt, eq-eqb, ne_eqb, Bool, true, false}
use Rattle.core_locks.proofs.Prelude.{List, [], ◌∷◌, length, slice_index, slice_set, Option, Some, None, refl, sym, ap, ◌∙◌, subst}
use Rattle.core_locks.proofs.Prelude.{arith, add-zero, zero-add, nat_tests, read_hold, Holds, Empty, HoldForm, read_hold-spells}
use Rattle.core_locks.proofs.Prelude.{read_hold-hold_of, hold_word, is_deeper, names, deeper_form, names_form, one_if, hold_count}
use Rattle.core_locks.proofs.Prelude.{depth_count, recursion_count, count_where, Shape, IsHold, hold_some, deeper_none, names_none}

-- LISTS OF WORDS. Where a word stands, and how the number of those that pass a test changes.
pub index_past : (hs : List ℕ) (p : ℕ) → slice_index hs p ≢ 0 → p < length hs
index_past [] p h = absurd (h refl)
index_past (y ∷ hs) zero h = omega arith
index_past (y ∷ hs) (suc p) h = let a = index_past hs p h in omega (arith, a)

pub number_set : (test : ℕ → ℕ → Bool) (i : ℕ) (hs : List ℕ) (p x : ℕ) → p < length hs
    → count_where test i (slice_set hs p x) + one_if (test (i + p) (slice_index hs p)) ≡ count_where test i hs + one_if (test (i + p) x)
number_set test i [] p x h = absurd (omega arith)
number_set test i (y ∷ hs) zero x h = rw (add-zero i) (omega arith)
number_set test i (y ∷ hs) (suc p) x h =
    let r = number_set test (i + 1) hs p x (omega arith) in
    let e : i + 1 + p ≡ i + suc p = omega arith in
    let r' = subst (λ k. count_where test (i + 1) (slice_set hs p x) + one_if (test k (slice_index hs p))
    ≡ count_where test (i + 1) hs + one_if (test k x)) e r in
    omega (arith, r')

-- by what the test says of the word that stood there, and of the one that stands there now
changed : (test : ℕ → ℕ → Bool) (hs : List ℕ) (p x : ℕ) (before now : Bool) → p < length hs → test p (slice_index hs p) ≡ before → test p x ≡ now
    → count_where test 0 (slice_set hs p x) + one_if before ≡ count_where test 0 hs + one_if now
changed test hs p x before now within was is =
    let r = number_set test 0 hs p x within in
    let had = ap (λ n. one_if (test n (slice_index hs p))) (zero-add p) ∙ ap one_if was in
    let has = ap (λ n. one_if (test n x)) (zero-add p) ∙ ap one_if is in
    omega (arith, r, had, has)

raised : (test : ℕ → ℕ → Bool) (hs : List ℕ) (p x : ℕ) (now : Bool) → p < length hs → test p (slice_index hs p) ≡ false → test p x ≡ now
    → count_where test 0 (slice_set hs p x) ≡ count_where test 0 hs + one_if now
raised test hs p x now within was is = omega (arith, changed test hs p x false now within was is)

lowered : (test : ℕ → ℕ → Bool) (hs : List ℕ) (p x : ℕ) (before : Bool) → p < length hs → test p (slice_index hs p) ≡ before → test p x ≡ false
    → count_where test 0 (slice_set hs p x) + one_if before ≡ count_where test 0 hs
lowered test hs p x before within was is = omega (arith, changed test hs p x before false within was is)

-- HOLD WORDS. One at a depth from 1 to 64 names its object alone.
pub names_is : (i o d : ℕ) → o < 2 ^ 15 → 1 ≤ d → d ≤ 64 → names i (hold_word o d) ≡ (o == i)
names_is i o d few some small = ap (λ f. names_form f i) (read_hold-hold_of (Holds o d) (few, some, small))

pub deeper_is : (i o d : ℕ) → o < 2 ^ 15 → 1 ≤ d → d ≤ 64 → is_deeper i (hold_word o d) ≡ ((o == i) && nat_lt 1 d)
deeper_is i o d few some small = ap (λ f. deeper_form f i) (read_hold-hold_of (Holds o d) (few, some, small))

-- two hold words at such depths are the same only for the same object and depth
pub hold_tells : (o d i e : ℕ) → d ≤ 64 → e ≤ 64 → hold_word o d ≡ hold_word i e → (o ≡ i) × (d ≡ e)
hold_tells o d i e h g q = (omega arith, omega arith)

pub same_hold : (i e o d : ℕ) → d ≤ 64 → e < 64 → (hold_word o d == hold_word i (e + 1)) ≡ ((o == i) && (d == e + 1))
same_hold i e o d h g = cases (o == i) (d == e + 1) refl refl
  where
    cases : (a b : Bool) → (o == i) ≡ a → (d == e + 1) ≡ b → (hold_word o d == hold_word i (e + 1)) ≡ (a && b)
    cases true true p q = let x : o ≡ i = grind (arith, nat_tests, p) in let y : d ≡ e + 1 = grind (arith, nat_tests, q) in eq-eqb _ _ (omega arith)
    cases true false p q = ne_eqb _ _ (λ z. let y : d ≢ e + 1 = λ r. absurd (cc (sym (eq-eqb _ _ r) ∙ q)) in
        absurd (y (let x : o ≡ i = grind (arith, nat_tests, p) in omega arith)))
    cases false b p q = ne_eqb _ _ (λ z. let y : o ≢ i = λ r. absurd (cc (sym (eq-eqb _ _ r) ∙ p)) in absurd (y (omega arith)))

-- a word of a heap's form that is the hold word of o at depth d names one of its objects, at a depth from 1 on
pub hold_in_form : (s : Shape) (o d n : ℕ) → d ≤ 64 → n ≡ hold_word o d → IsHold s (read_hold n) → (o < length s.objects) × (1 ≤ d)
hold_in_form s o d n small e form = cases (read_hold n) refl form
  where
    cases : (f : Option HoldForm) → read_hold n ≡ f → IsHold s f → (o < length s.objects) × (1 ≤ d)
    cases None g h = elim h [ ]
    cases (Some Empty) g h = let spells = read_hold-spells n Empty g in absurd (hold_some o d (sym e ∙ spells.1))
    cases (Some (Holds i j)) g h =
        let spells = read_hold-spells n (Holds i j) g in
        let same : hold_word o d ≡ hold_word i j = sym e ∙ spells.1 in
        let tells = hold_tells o d i j small spells.0.2 same in
        let within : i < length s.objects = h in
        let deep : 1 ≤ j = spells.0.1 in
        (omega (arith, tells.0, within), omega (arith, tells.1, deep))

-- STORING. The hold word of o at depth d is stored in an empty place.
module _ (hs : List ℕ) (p o d : ℕ) (within : p < length hs) (few : o < 2 ^ 15) (some : 1 ≤ d) (small : d ≤ 64) (empty : slice_index hs p ≡ 0) where
  pub named_put : (i : ℕ) → hold_count i (slice_set hs p (hold_word o d)) ≡ hold_count i hs + one_if (o == i)
  named_put i = raised (λ q h. names i h) hs p (hold_word o d) (o == i) within (ap (names i) empty ∙ names_none i) (names_is i o d few some small)

  pub times_put : (i e : ℕ) → e < most_holds
      → depth_count i (e + 1) (slice_set hs p (hold_word o d)) ≡ depth_count i (e + 1) hs + one_if ((o == i) && (d == e + 1))
  times_put i e g = raised (λ q h. h == hold_word i (e + 1)) hs p (hold_word o d) ((o == i) && (d == e + 1)) within
      (ne_eqb _ _ (λ z. hold_some i (e + 1) (sym z ∙ empty))) (same_hold i e o d small g)

  pub again_put : (i : ℕ) (f : ℕ → ℕ)
      → recursion_count i f (slice_set hs p (hold_word o d)) ≡ recursion_count i f hs + one_if (((o == i) && nat_lt 1 d) && (f p == 3))
  again_put i f = raised (λ q h. is_deeper i h && (f q == 3)) hs p (hold_word o d) (((o == i) && nat_lt 1 d) && (f p == 3)) within
      (ap (λ n. is_deeper i n && (f p == 3)) empty ∙ ap (λ (b : Bool). b && (f p == 3)) (deeper_none i))
      (ap (λ (b : Bool). b && (f p == 3)) (deeper_is i o d few some small))

-- CLEARING. The hold word of o at depth d is cleared.
module _ (hs : List ℕ) (p o d : ℕ) (few : o < 2 ^ 15) (some : 1 ≤ d) (small : d ≤ 64) (full : slice_index hs p ≡ hold_word o d) where
  inside : p < length hs
  inside = index_past hs p (λ z. hold_some o d (sym full ∙ z))

  pub named_clear : (i : ℕ) → hold_count i (slice_set hs p 0) + one_if (o == i) ≡ hold_count i hs
  named_clear i = lowered (λ q h. names i h) hs p 0 (o == i) inside (ap (names i) full ∙ names_is i o d few some small) (names_none i)

  pub times_clear : (i e : ℕ) → e < most_holds → depth_count i (e + 1) (slice_set hs p 0) + one_if ((o == i) && (d == e + 1)) ≡ depth_count i (e + 1) hs
  times_clear i e g = lowered (λ q h. h == hold_word i (e + 1)) hs p 0 ((o == i) && (d == e + 1)) inside
      (ap (λ n. n == hold_word i (e + 1)) full ∙ same_hold i e o d small g) (ne_eqb _ _ (λ z. hold_some i (e + 1) (sym z)))

  pub again_clear : (i : ℕ) (f : ℕ → ℕ) → recursion_count i f (slice_set hs p 0) + one_if (((o == i) && nat_lt 1 d) && (f p == 3)) ≡ recursion_count i f hs
  again_clear i f = lowered (λ q h. is_deeper i h && (f q == 3)) hs p 0 (((o == i) && nat_lt 1 d) && (f p == 3)) inside
      (ap (λ n. is_deeper i n && (f p == 3)) full ∙ ap (λ (b : Bool). b && (f p == 3)) (deeper_is i o d few some small))
      (ap (λ (b : Bool). b && (f p == 3)) (deeper_none i))
