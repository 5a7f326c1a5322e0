-- A list of waiters with one more at its end.
use Rattle.core_locks.proofs.Prelude.{◌≡◌, ◌≢◌, ◌⊎◌, ℕ, zero, suc, ◌<◌, ◌==◌, ◌&&◌, ◌||◌, nat_lt, ne_eqb, Bool, true, false}
use Rattle.core_locks.proofs.Prelude.{cond, List, [], ◌∷◌, ◌++◌, Some, None, sym, ap, ◌∙◌, arith, inl, inr, eqb-true, or-true}
use Rattle.core_locks.proofs.Prelude.{nat_tests, AllByRecursion, is_listed, count_of, all_push, waits_on, says_notified, stamp_in}
use Rattle.core_locks.proofs.Prelude.{StandByStamps, AreNotified, WaitsLongerThan, same_number, or-false, subst}
use Rattle.core_locks.proofs.WaitOut.{neither}
use Rattle.std.proofs.Math.Bool.{or_assoc}
use Rattle.std.proofs.lemmas.Bool.{or_cases}

-- those who were listed are, and the new one, and nobody else
listed_more : (ps : List (ℕ × ℕ)) (t c u : ℕ) → is_listed (ps ++ (t, c) ∷ []) u ≡ (is_listed ps u || (t == u))
listed_more [] t c u = or-false (t == u)
listed_more (p ∷ ps) t c u = ap (λ b. (p.0 == u) || b) (listed_more ps t c u) ∙ sym (or_assoc (p.0 == u) (is_listed ps u) (t == u))

pub listed_forth : (ps : List (ℕ × ℕ)) (t c u : ℕ) → is_listed ps u ≡ true → is_listed (ps ++ (t, c) ∷ []) u ≡ true
listed_forth ps t c u h = listed_more ps t c u ∙ ap (λ b. b || (t == u)) h

pub listed_last : (ps : List (ℕ × ℕ)) (t c : ℕ) → is_listed (ps ++ (t, c) ∷ []) t ≡ true
listed_last ps t c = listed_more ps t c t ∙ ap (λ b. is_listed ps t || b) (same_number t) ∙ or-true (is_listed ps t)

pub listed_back : (ps : List (ℕ × ℕ)) (t c u : ℕ) → is_listed (ps ++ (t, c) ∷ []) u ≡ true → (is_listed ps u ≡ true) ⊎ (u ≡ t)
listed_back ps t c u h = elim (or_cases (is_listed ps u) (t == u) (sym (listed_more ps t c u) ∙ h)) [ inl a ↦ inl a | inr a ↦ inr (sym (eqb-true t u a)) ]

-- the new one keeps its count
pub count_last : (ps : List (ℕ × ℕ)) (t c : ℕ) → is_listed ps t ≡ false → count_of (ps ++ (t, c) ∷ []) t ≡ Some c
count_last [] t c h = ap (λ (b : Bool). cond b (Some c) None) (same_number t)
count_last (p ∷ ps) t c h = let a = neither (p.0 == t) (is_listed ps t) (sym h) in rw a.0 (count_last ps t c a.1)

-- and every other one the count that it had
pub count_else : (ps : List (ℕ × ℕ)) (t c u : ℕ) → u ≢ t → count_of (ps ++ (t, c) ∷ []) u ≡ count_of ps u
count_else [] t c u d = ap (λ (b : Bool). cond b (Some c) None) (ne_eqb t u (λ e. d (sym e)))
count_else (p ∷ ps) t c u d = ap (cond (p.0 == u) (Some p.1)) (count_else ps t c u d)

listed_head : (p : ℕ × ℕ) (ps : List (ℕ × ℕ)) → is_listed (p ∷ ps) p.0 ≡ true
listed_head p ps = ap (λ b. b || is_listed ps p.0) (same_number p.0)

listed_tail : (p : ℕ × ℕ) (ps : List (ℕ × ℕ)) (u : ℕ) → is_listed ps u ≡ true → is_listed (p ∷ ps) u ≡ true
listed_tail p ps u h = ap (λ b. (p.0 == u) || b) h ∙ or-true (p.0 == u)

-- one stands before the others where every word that says that its thread waits said so before
before_where : (f g : ℕ → ℕ) (o : ℕ) (p : ℕ × ℕ) (qs : List (ℕ × ℕ)) → (waits_on (g p.0) o ≡ true → f p.0 ≡ g p.0)
    → ((u : ℕ) → is_listed qs u ≡ true → waits_on (g u) o ≡ true → f u ≡ g u)
    → AllByRecursion (WaitsLongerThan f o p) qs → AllByRecursion (WaitsLongerThan g o p) qs
before_where f g o p [] e h a = tt
before_where f g o p (q ∷ qs) e h a =
    let one : WaitsLongerThan g o p q = λ x y.
    let here = e x in
    let there = h q.0 (listed_head q qs) y in
    subst (λ (z : ℕ × ℕ). (nat_lt (stamp_in z.0) (stamp_in z.1) || ((stamp_in z.0 == stamp_in z.1) && nat_lt p.0 q.0)) ≡ true) (λ i. (here i, there i))
    (a.0 (ap (λ z. waits_on z o) here ∙ x) (ap (λ z. waits_on z o) there ∙ y)) in
    (one, before_where f g o p qs e (λ u k. h u (listed_tail q qs u k)) a.1)

-- so all that wait stand by their stamps
pub stand_where : (f g : ℕ → ℕ) (o : ℕ) (ps : List (ℕ × ℕ)) → ((u : ℕ) → is_listed ps u ≡ true → waits_on (g u) o ≡ true → f u ≡ g u) → StandByStamps f o ps
    → StandByStamps g o ps
stand_where f g o [] h a = tt
stand_where f g o (p ∷ ps) h a =
    (before_where f g o p ps (h p.0 (listed_head p ps)) (λ u k. h u (listed_tail p ps u k)) a.0, stand_where f g o ps (λ u k. h u (listed_tail p ps u k)) a.1)

-- where their words are the same
pub stand_same : (f g : ℕ → ℕ) (o : ℕ) (ps : List (ℕ × ℕ)) → ((u : ℕ) → is_listed ps u ≡ true → g u ≡ f u) → StandByStamps f o ps → StandByStamps g o ps
stand_same f g o ps h = stand_where f g o ps (λ u k x. sym (h u k))

-- those who were told still are
pub told_same : (f g : ℕ → ℕ) (o n : ℕ) (ps : List (ℕ × ℕ)) → ((u : ℕ) → is_listed ps u ≡ true → g u ≡ f u) → AreNotified f o n ps → AreNotified g o n ps
told_same f g o n [] h a = a
told_same f g o zero (p ∷ ps) h a = (ap (λ x. waits_on x o) (h p.0 (listed_head p ps)) ∙ a.0, told_same f g o zero ps (λ u k. h u (listed_tail p ps u k)) a.1)
told_same f g o (suc n) (p ∷ ps) h a =
    (ap (λ x. says_notified x o) (h p.0 (listed_head p ps)) ∙ a.0, told_same f g o n ps (λ u k. h u (listed_tail p ps u k)) a.1)

-- they do with one more, whose stamp is above theirs
pub stand_last : (f g : ℕ → ℕ) (o t c : ℕ) (ps : List (ℕ × ℕ)) → ((u : ℕ) → is_listed ps u ≡ true → g u ≡ f u)
    → ((u : ℕ) → is_listed ps u ≡ true → waits_on (f u) o ≡ true → stamp_in (f u) < stamp_in (g t))
    → StandByStamps f o ps → StandByStamps g o (ps ++ (t, c) ∷ [])
stand_last f g o t c [] h below a = (tt, tt)
stand_last f g o t c (p ∷ ps) h below a =
    let e = h p.0 (listed_head p ps) in
    let last : WaitsLongerThan g o p (t, c) = λ x y.
    less (stamp_in (g p.0)) (stamp_in (g t)) p.0 t
    (let b = below p.0 (listed_head p ps) (ap (λ n. waits_on n o) (sym e) ∙ x) in omega (arith, b, ap stamp_in e)) in (
      all_push (WaitsLongerThan g o p) ps (t, c) (before_where f g o p ps (λ x. sym e) (λ u k x. sym (h u (listed_tail p ps u k))) a.0) last,
      stand_last f g o t c ps (λ u k. h u (listed_tail p ps u k)) (λ u k. below u (listed_tail p ps u k)) a.1,
    )
  where
    less : (m n a b : ℕ) → m < n → (nat_lt m n || ((m == n) && nat_lt a b)) ≡ true
    less m n a b h = grind (arith, nat_tests)
