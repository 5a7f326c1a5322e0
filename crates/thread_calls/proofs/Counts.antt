-- Lists of numbers, element by element, and how often a thread holds objects after an entry.
use Rattle.std.proofs.Common.{◌≡◌, ◌≢◌, ℕ, zero, suc, ◌+◌, ◌-◌, ◌<◌, ◌≤◌, ◌==◌, if◌then◌else◌, eq-eqb, ne_eqb, ltb-true, ltb-false}
use Rattle.std.proofs.Common.{nat_lt, Bool, true, false, List, [], ◌∷◌, ◌++◌, length, sum, slice_index, refl, sym, ap, ◌∙◌, arith}
use Rattle.std.proofs.lemmas.List.{ext_get_or, get_or_past}
use Rattle.std.proofs.lemmas.List.Sums.{sum_by-cons}
use Rattle.plain_monitor.specs.declared.entry.Entry.{Entry}
use Rattle.plain_monitor.specs.declared.entry.Entry.TheVariants.{Enter, Exit}
use Rattle.plain_monitor.specs.declared.entry.Logged.{Logged}
use Rattle.plain_history.specs.HeldByLog.{held_after, held_by}
use Rattle.core_world.specs.Locks.{hold_count}
use Rattle.thread_frame.specs.Sights.{counts_from}

-- COUNTS of hold words
pub counts_length : (k n : ℕ) (words : List ℕ) → length (counts_from k n words) ≡ n
counts_length k zero words = refl
counts_length k (suc n) words = let rest = counts_length (suc k) n words in omega (arith, rest)

pub counts_at : (k n i : ℕ) (words : List ℕ) → i < n → slice_index (counts_from k n words) i ≡ hold_count (k + i) words
counts_at k zero i words l = absurd (omega (arith, l))
counts_at k (suc n) zero words l = let e : k ≡ k + 0 = omega arith in ap (λ o. hold_count o words) e
counts_at k (suc n) (suc i) words l =
    let e : suc k + i ≡ k + suc i = omega arith in
    counts_at (suc k) n i words (omega (arith, l)) ∙ ap (λ o. hold_count o words) e

pub are_counts : (n : ℕ) (words holds : List ℕ) → length holds ≡ n → ((o : ℕ) → o < n → slice_index holds o ≡ hold_count o words)
    → holds ≡ counts_from 0 n words
are_counts n words holds count each =
    ext_get_or 0 holds (counts_from 0 n words) (count ∙ sym (counts_length 0 n words)) (λ i l.
    let within : i < n = omega (arith, l, count) in
    let e : i ≡ 0 + i = omega arith in
    each i within ∙ ap (λ o. hold_count o words) e ∙ sym (counts_at 0 n i words within))

-- SUMS of two lists of one length
pub sum_fewer : (a b : List ℕ) → length a ≡ length b → ((i : ℕ) → i < length a → slice_index a i ≤ slice_index b i) → sum a ≤ sum b
sum_fewer [] b e h = omega arith
sum_fewer (x ∷ a) [] e h = absurd (omega (arith, e))
sum_fewer (x ∷ a) (y ∷ b) e h =
    let here = h 0 (omega arith) in
    let rest = sum_fewer a b (omega (arith, e)) (λ i l. h (suc i) (omega (arith, l))) in
    omega (arith, here, rest, sum_by-cons (λ (z : ℕ). z) x a, sum_by-cons (λ (z : ℕ). z) y b)

-- besides one place, where it is at most one more, or one less
pub sum_more : (o : ℕ) (a b : List ℕ) → length a ≡ length b → ((i : ℕ) → i < length a → i ≢ o → slice_index a i ≤ slice_index b i)
    → slice_index a o ≤ slice_index b o + 1 → sum a ≤ sum b + 1
sum_more o [] b e h at = omega arith
sum_more o (x ∷ a) [] e h at = absurd (omega (arith, e))
sum_more zero (x ∷ a) (y ∷ b) e h at =
    let rest = sum_fewer a b (omega (arith, e)) (λ i l. h (suc i) (omega (arith, l)) (λ z. omega (arith, z))) in
    omega (arith, at, rest, sum_by-cons (λ (z : ℕ). z) x a, sum_by-cons (λ (z : ℕ). z) y b)
sum_more (suc o) (x ∷ a) (y ∷ b) e h at =
    let here = h 0 (omega arith) (λ z. omega (arith, z)) in
    let rest = sum_more o a b (omega (arith, e)) (λ i l d. h (suc i) (omega (arith, l)) (λ z. d (omega (arith, z)))) at in
    omega (arith, here, rest, sum_by-cons (λ (z : ℕ). z) x a, sum_by-cons (λ (z : ℕ). z) y b)

pub sum_less : (o : ℕ) (a b : List ℕ) → length a ≡ length b → o < length a → ((i : ℕ) → i < length a → i ≢ o → slice_index a i ≤ slice_index b i)
    → slice_index a o + 1 ≤ slice_index b o → sum a + 1 ≤ sum b
sum_less o [] b e l h at = absurd (omega (arith, l))
sum_less o (x ∷ a) [] e l h at = absurd (omega (arith, e))
sum_less zero (x ∷ a) (y ∷ b) e l h at =
    let rest = sum_fewer a b (omega (arith, e)) (λ i l. h (suc i) (omega (arith, l)) (λ z. omega (arith, z))) in
    omega (arith, at, rest, sum_by-cons (λ (z : ℕ). z) x a, sum_by-cons (λ (z : ℕ). z) y b)
sum_less (suc o) (x ∷ a) (y ∷ b) e l h at =
    let here = h 0 (omega arith) (λ z. omega (arith, z)) in
    let rest = sum_less o a b (omega (arith, e)) (omega (arith, l)) (λ i l d. h (suc i) (omega (arith, l)) (λ z. d (omega (arith, z)))) at in
    omega (arith, here, rest, sum_by-cons (λ (z : ℕ). z) x a, sum_by-cons (λ (z : ℕ). z) y b)

-- ENTRIES. What a thread holds after one more
pub held_more : (held : ℕ → ℕ) (log : List Logged) (l : Logged) (o : ℕ) → held_by held (log ++ l ∷ []) o ≡ held_after l.entry (held_by held log) o
held_more held [] l o = refl
held_more held (x ∷ log) l o = held_more (held_after x.entry held) log l o

-- it depends on the holds of that object alone
pub held_same : (e : Entry) (f g : ℕ → ℕ) (o : ℕ) → f o ≡ g o → held_after e f o ≡ held_after e g o
held_same (Enter object path) f g o h = ap (λ n. n + (if object == o then 1 else 0)) h
held_same (Exit object) f g o h = ap (λ n. n - (if object == o then 1 else 0)) h
held_same e f g o h = h

abbrev one : Bool → ℕ
one b = if b then 1 else 0

one_most : (b : Bool) → one b ≤ 1
one_most true = omega arith
one_most false = omega arith

one_other : (o i : ℕ) → i ≢ o → one (o == i) ≡ 0
one_other o i d = ap one (ne_eqb o i (λ e. d (sym e)))

one_here : (o : ℕ) → one (o == o) ≡ 1
one_here o = ap one (eq-eqb o o refl)

-- the holds of a list are those of another after the entry
pub record AreAfter (e : Entry) (a b : List ℕ) : Type 0 where
  pub count : length a ≡ length b
  pub each : (i : ℕ) → i < length a → slice_index a i ≡ held_after e (λ j. slice_index b j) i

-- an enter is one hold more at most, and every other entry none
pub sum_after : (e : Entry) (a b : List ℕ) → AreAfter e a b → sum a ≤ sum b + 1
sum_after (Enter object path) a b h = cases (nat_lt object (length a)) refl
  where
    past : slice_index a object ≡ 0 → slice_index a object ≤ slice_index b object + 1
    past z = omega (arith, z)

    cases : (w : Bool) → nat_lt object (length a) ≡ w → sum a ≤ sum b + 1
    cases true w =
        let l : object < length a = ltb-true object (length a) w in
        sum_more object a b h.count (λ i l d. let e = h.each i l in let z = one_other object i d in omega (arith, e, z))
        (let e = h.each object l in let m = one_most (object == object) in omega (arith, e, m))
    cases false w =
        let l : length a ≤ object = ltb-false object (length a) w in
        sum_more object a b h.count (λ i l d. let e = h.each i l in let z = one_other object i d in omega (arith, e, z))
        (past (get_or_past a object 0 l))
sum_after (Exit object) a b h = let l = sum_fewer a b h.count (λ i l. let e = h.each i l in omega (arith, e)) in omega (arith, l)
sum_after e a b h = let l = sum_fewer a b h.count (λ i l. let e = h.each i l in omega (arith, e)) in omega (arith, l)

-- an exit of a held object is one less
pub sum_left : (object : ℕ) (a b : List ℕ) → AreAfter (Exit object) a b → object < length a → 1 ≤ slice_index b object → sum a + 1 ≤ sum b
sum_left object a b h l held =
    sum_less object a b h.count l (λ i l d. let e = h.each i l in omega (arith, e))
    (let e = h.each object l in let z = one_here object in omega (arith, e, z, held))

-- one that is neither changes nothing
abbrev pub keeps : Entry → Bool
keeps (Enter object path) = false
keeps (Exit object) = false
keeps e = true

pub sum_kept : (e : Entry) (a b : List ℕ) → keeps e ≡ true → AreAfter e a b → sum a ≤ sum b
sum_kept (Enter object path) a b k h = absurd (cc k)
sum_kept (Exit object) a b k h = absurd (cc k)
sum_kept e a b k h = sum_fewer a b h.count (λ i l. let e = h.each i l in omega (arith, e))
