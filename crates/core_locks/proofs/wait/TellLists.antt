-- Those who wait on an object, when the oldest of them is told; and their counts, when they go to those who were notified.
use Rattle.core_locks.proofs.Prelude.{◌≡◌, ◌≢◌, ◌⊎◌, ℕ, zero, suc, ◌+◌, ◌≤◌, ◌==◌, ◌&&◌, ◌||◌, nat_lt, ne_eqb, Bool, true, false, cond}
use Rattle.core_locks.proofs.Prelude.{List, [], ◌∷◌, ◌++◌, length, Option, Some, refl, sym, ap, ◌∙◌, subst, arith, inl, inr}
use Rattle.core_locks.proofs.Prelude.{eqb-true, or-true, nat_tests, AllByRecursion, WaitForm, is_listed, count_of, times_in, never_counted}
use Rattle.core_locks.proofs.Prelude.{waits_on, says_notified, stamp_in, waits_form, ended_form, notified_form, enters_form, or_zero}
use Rattle.core_locks.proofs.Prelude.{StandByStamps, AreNotified, WaitsLongerThan, is_older, by_equal, same_number}
use Rattle.mark_word.specs.declared.wait.WaitForm.TheVariants as wait
use Rattle.core_locks.proofs.wait.LeavesLists.{told_same}

-- a word that says Waiting with o says nothing else
pub waits_untold : (f : Option WaitForm) (o i : ℕ) → waits_form f o ≡ true → notified_form f i ≡ false
waits_untold (Some (wait.Waiting object stamp)) o i h = refl
waits_untold (Some (wait.Notified object)) o i h = absurd (cc h)
waits_untold _ o i h = refl

pub waits_unentering : (f : Option WaitForm) (o i : ℕ) → waits_form f o ≡ true → enters_form f i ≡ false
waits_unentering (Some (wait.Entering object)) o i h = absurd (cc h)
waits_unentering _ o i h = refl

pub waits_unended : (f : Option WaitForm) (o : ℕ) → waits_form f o ≡ true → ended_form f ≡ false
waits_unended (Some wait.Ended) o h = absurd (cc h)
waits_unended _ o h = refl

pub waits_one : (f : Option WaitForm) (o i : ℕ) → waits_form f o ≡ true → waits_form f i ≡ true → i ≡ o
waits_one (Some (wait.Waiting object stamp)) o i h k = sym (eqb-true object i k) ∙ eqb-true object o h
waits_one _ o i h k = absurd (cc h)

pub waits_form_is : (f : Option WaitForm) (o : ℕ) → waits_form f o ≡ true → (i s : ℕ) × (f ≡ Some (wait.Waiting i s))
waits_form_is (Some (wait.Waiting object stamp)) o h = (object, stamp, refl)
waits_form_is _ o h = absurd (cc h)

-- of two waiters one is older
asymmetric : (a b s r : ℕ) → (nat_lt s r || ((s == r) && nat_lt a b)) ≡ true → (nat_lt r s || ((r == s) && nat_lt b a)) ≡ true → ⊥
asymmetric a b s r h k = grind (arith, nat_tests)

pub head_listed : (p : ℕ × ℕ) (ps : List (ℕ × ℕ)) → is_listed (p ∷ ps) p.0 ≡ true
head_listed p ps = ap (λ b. b || is_listed ps p.0) (same_number p.0)

pub tail_listed : (p : ℕ × ℕ) (ps : List (ℕ × ℕ)) (u : ℕ) → is_listed ps u ≡ true → is_listed (p ∷ ps) u ≡ true
tail_listed p ps u h = ap (λ b. (p.0 == u) || b) h ∙ or-true (p.0 == u)

pub in_tail : (p : ℕ × ℕ) (ps : List (ℕ × ℕ)) (u : ℕ) → p.0 ≢ u → is_listed (p ∷ ps) u ≡ true → is_listed ps u ≡ true
in_tail p ps u d h = ap (λ b. b || is_listed ps u) (sym (ne_eqb p.0 u d)) ∙ h

stands_at : (f : ℕ → ℕ) (o : ℕ) (p : ℕ × ℕ) (qs : List (ℕ × ℕ)) (u : ℕ) → AllByRecursion (WaitsLongerThan f o p) qs
    → is_listed qs u ≡ true → waits_on (f p.0) o ≡ true → waits_on (f u) o ≡ true
    → (nat_lt (stamp_in (f p.0)) (stamp_in (f u)) || ((stamp_in (f p.0) == stamp_in (f u)) && nat_lt p.0 u)) ≡ true
stands_at f o p [] u a h x y = absurd (cc h)
stands_at f o p (q ∷ qs) u a h x y = by_equal q.0 u
    (λ e. subst (λ z. (nat_lt (stamp_in (f p.0)) (stamp_in (f z)) || ((stamp_in (f p.0) == stamp_in (f z)) && nat_lt p.0 z)) ≡ true) e
    (a.0 x (ap (λ z. waits_on (f z) o) e ∙ y)))
    (λ d. stands_at f o p qs u a.1 (in_tail q qs u d h) x y)

-- the oldest of those who wait, among whom n were notified, is told
pub told_next : (f g : ℕ → ℕ) (o u n : ℕ) (ps : List (ℕ × ℕ)) → ((z : ℕ) → z ≢ u → g z ≡ f z)
    → says_notified (g u) o ≡ true → waits_on (f u) o ≡ true → is_listed ps u ≡ true
    → ((z : ℕ) → is_listed ps z ≡ true → waits_on (f z) o ≡ true → (z ≡ u) ⊎ (is_older (u, stamp_in (f u)) (z, stamp_in (f z)) ≡ true))
    → StandByStamps f o ps → AreNotified f o n ps → AreNotified g o (suc n) ps
told_next f g o u n [] else now was listed oldest stand before = absurd (cc listed)
told_next f g o u zero (p ∷ ps) else now was listed oldest stand before =
    let here : p.0 ≡ u = by_equal p.0 u (λ e. e) (λ d. elim (oldest p.0 (head_listed p ps) before.0) [
      | inl a ↦ a
      | inr a ↦ absurd (asymmetric u p.0 (stamp_in (f u)) (stamp_in (f p.0)) a (stands_at f o p ps u stand.0 (in_tail p ps u d listed) before.0 was))
    ]) in
    let once : (z : ℕ) → is_listed ps z ≡ true → z ≢ u = λ z h e.
    let own = subst (λ y. (nat_lt (stamp_in (f y)) (stamp_in (f u)) || ((stamp_in (f y) == stamp_in (f u)) && nat_lt y u)) ≡ true) here
    (stands_at f o p ps u stand.0 (ap (is_listed ps) (sym e) ∙ h) before.0 was) in
    asymmetric u u (stamp_in (f u)) (stamp_in (f u)) own own in
    (ap (λ z. says_notified (g z) o) here ∙ now, told_same f g o 0 ps (λ z h. else z (once z h)) before.1)
told_next f g o u (suc n) (p ∷ ps) else now was listed oldest stand before =
    let other : p.0 ≢ u = λ e. let not = waits_untold _ o o was in absurd (cc (not, ap (λ z. says_notified (f z) o) (sym e) ∙ before.0)) in (
      ap (λ z. says_notified z o) (else p.0 other) ∙ before.0,
      told_next f g o u n ps else now was (in_tail p ps u other listed) (λ z h. oldest z (tail_listed p ps z h)) stand.1 before.1,
    )

-- who stands there waits or was notified
pub told_or_waits : (g : ℕ → ℕ) (o n : ℕ) (ps : List (ℕ × ℕ)) (z : ℕ) → AreNotified g o n ps
    → is_listed ps z ≡ true → (waits_on (g z) o ≡ true) ⊎ (says_notified (g z) o ≡ true)
told_or_waits g o n [] z a h = absurd (cc h)
told_or_waits g o zero (p ∷ ps) z a h =
    by_equal p.0 z (λ e. inl (ap (λ y. waits_on (g y) o) (sym e) ∙ a.0)) (λ d. told_or_waits g o zero ps z a.1 (in_tail p ps z d h))
told_or_waits g o (suc n) (p ∷ ps) z a h =
    by_equal p.0 z (λ e. inr (ap (λ y. says_notified (g y) o) (sym e) ∙ a.0)) (λ d. told_or_waits g o n ps z a.1 (in_tail p ps z d h))

-- where none was notified, all wait
pub none_told : (g : ℕ → ℕ) (o : ℕ) (ps : List (ℕ × ℕ)) (z : ℕ) → AreNotified g o 0 ps → is_listed ps z ≡ true → waits_on (g z) o ≡ true
none_told g o [] z a h = absurd (cc h)
none_told g o (p ∷ ps) z a h = by_equal p.0 z (λ e. ap (λ y. waits_on (g y) o) (sym e) ∙ a.0) (λ d. none_told g o ps z a.1 (in_tail p ps z d h))

-- where nobody of them waits any more, all were notified
pub told_all : (g : ℕ → ℕ) (o n : ℕ) (ps : List (ℕ × ℕ)) → AreNotified g o n ps
    → ((z : ℕ) → is_listed ps z ≡ true → waits_on (g z) o ≡ true → ⊥) → length ps ≡ n
told_all g o n [] a h = sym a
told_all g o zero (p ∷ ps) a h = absurd (h p.0 (head_listed p ps) a.0)
told_all g o (suc n) (p ∷ ps) a h = let b = told_all g o n ps a.1 (λ z k. h z (tail_listed p ps z k)) in omega (arith, b)

-- LISTS THAT ARE JOINED
pub listed_join : (xs ys : List (ℕ × ℕ)) (z : ℕ) → is_listed (xs ++ ys) z ≡ (is_listed xs z || is_listed ys z)
listed_join [] ys z = refl
listed_join (p ∷ xs) ys z = ap (λ b. (p.0 == z) || b) (listed_join xs ys z) ∙ assoc (p.0 == z) (is_listed xs z) (is_listed ys z)
  where
    assoc : (a b c : Bool) → (a || (b || c)) ≡ ((a || b) || c)
    assoc true b c = refl
    assoc false b c = refl

times_join : (xs ys : List (ℕ × ℕ)) (z : ℕ) → times_in (xs ++ ys) z ≡ times_in xs z + times_in ys z
times_join [] ys z = omega arith
times_join (p ∷ xs) ys z = omega (arith, times_join xs ys z)

-- a list without z before another, and after it
count_front : (xs ys : List (ℕ × ℕ)) (z : ℕ) → times_in xs z ≡ 0 → or_zero (count_of (xs ++ ys) z) ≡ or_zero (count_of ys z)
count_front [] ys z h = refl
count_front (p ∷ xs) ys z h = at_head (p.0 == z) h (count_front xs ys z)
  where
    at_head : (b : Bool) → cond b 1 0 + times_in xs z ≡ 0 → (times_in xs z ≡ 0 → or_zero (count_of (xs ++ ys) z) ≡ or_zero (count_of ys z))
        → or_zero (cond b (Some p.1) (count_of (xs ++ ys) z)) ≡ or_zero (count_of ys z)
    at_head true h ih = absurd (omega (arith, h))
    at_head false h ih = ih (omega (arith, h))

count_back : (xs ys : List (ℕ × ℕ)) (z : ℕ) → times_in ys z ≡ 0 → or_zero (count_of (xs ++ ys) z) ≡ or_zero (count_of xs z)
count_back [] ys z h = never_counted ys z h
count_back (p ∷ xs) ys z h = at_head (p.0 == z) (count_back xs ys z h)
  where
    at_head : (b : Bool) → or_zero (count_of (xs ++ ys) z) ≡ or_zero (count_of xs z)
        → or_zero (cond b (Some p.1) (count_of (xs ++ ys) z)) ≡ or_zero (cond b (Some p.1) (count_of xs z))
    at_head true ih = refl
    at_head false ih = ih

-- each thread stands once, so the first of one list keep their counts after another
pub counts_move : (xs ys cs : List (ℕ × ℕ)) (z : ℕ) → times_in (xs ++ ys) z + times_in cs z ≤ 1
    → or_zero (count_of ys z) + or_zero (count_of (cs ++ xs) z) ≡ or_zero (count_of (xs ++ ys) z) + or_zero (count_of cs z)
counts_move xs ys cs z h = by_equal (times_in xs z) 0
    (λ e. let a = count_front xs ys z e in let b = count_back cs xs z e in omega (arith, a, b))
    (λ d.
    let join = times_join xs ys z in
    let in_rest : times_in ys z ≡ 0 = omega (arith, h, join, d) in
    let in_others : times_in cs z ≡ 0 = omega (arith, h, join, d) in
    let a = count_back xs ys z in_rest in
    let b = count_front cs xs z in_others in
    let c = never_counted ys z in_rest in
    let e = never_counted cs z in_others in
    omega (arith, a, b, c, e))
