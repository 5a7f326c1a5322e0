-- How often each thread stands at a plain monitor after a step on it: an enter is one more of its own thread, an exit one less, and every other
-- step leaves all as they were.
use Rattle.std.proofs.Common.{◌≡◌, ◌⊎◌, ℕ, ◌+◌, ◌-◌, ◌<◌, ◌≤◌, ◌==◌, ◌&&◌, nat_le, is_none, eq-eqb, ne_eqb, eqb-true, cond, Bool}
use Rattle.std.proofs.Common.{true, false, List, [], ◌∷◌, ◌++◌, Option, Some, None, refl, sym, ap, ◌∙◌, subst, arith, inl, inr}
use Rattle.std.proofs.lemmas.Bool.{cases_eq}
use Rattle.std.proofs.lemmas.Bool.Decides.{nat_tests}
use Rattle.std.proofs.lemmas.Option.{cond_some, same_Some}
use Rattle.plain_monitor.specs.Monitor.{PlainMonitor, only_if, is_thread, owns, count_of, without, is_outside}
use Rattle.plain_monitor.specs.Monitor.{enter, exit, wait, resumed, resume, calls, notify, notify_all}
use Rattle.plain_monitor.specs.Listed.{times_in, presence}
use Rattle.plain_history.specs.Sound.{IsSound}
use Rattle.plain_history.specs.HeldByLog.{or_zero, holds_by_monitor}
use Rattle.plain_history.proofs.SoundSteps.{both_true, owner_is, none_without}
use Rattle.plain_history.proofs.Without.{without_others}

-- 1 where the test holds, and else 0
abbrev pub one_if : Bool → ℕ
one_if b = cond b 1 0

no_owner : (a : Option ℕ) → is_none a ≡ true → a ≡ None
no_owner None h = refl
no_owner (Some v) h = absurd (cc h)

-- the next lemma, by the test against the head
never_counted_at_head : (p : ℕ × ℕ) (ps : List (ℕ × ℕ)) (t : ℕ) (b : Bool) → cond b 1 0 + times_in ps t ≡ 0 → (times_in ps t ≡ 0 → or_zero (count_of ps t) ≡ 0)
    → or_zero (cond b (Some p.1) (count_of ps t)) ≡ 0
never_counted_at_head p ps t true h ih = absurd (omega arith)
never_counted_at_head p ps t false h ih = ih (omega arith)

-- a thread that is listed no time keeps no count
pub never_counted : (ps : List (ℕ × ℕ)) (t : ℕ) → times_in ps t ≡ 0 → or_zero (count_of ps t) ≡ 0
never_counted [] t h = refl
never_counted (p ∷ ps) t h = never_counted_at_head p ps t (p.0 == t) h (never_counted ps t)

-- what the lists keep for a thread
abbrev kept : List (ℕ × ℕ) → ℕ → ℕ
kept ps t = or_zero (count_of ps t)

-- the holds by the owner
stands_by : (m : PlainMonitor) (a : Option ℕ) (t : ℕ) → m.owner ≡ a → holds_by_monitor m t ≡ cond (is_thread a t) m.count 0 + kept m.waits t + kept m.called t
stands_by m a t h = ap (λ b. cond (is_thread b t) m.count 0 + kept m.waits t + kept m.called t) h

entered : (n m w c : ℕ) (b : Bool) → cond b (n + 1) 0 + w + c ≡ cond b n 0 + w + c + one_if b
entered n m w c true = omega arith
entered n m w c false = omega arith

taken : (w c : ℕ) (b : Bool) → cond b 1 0 + w + c ≡ 0 + w + c + one_if b
taken w c true = omega arith
taken w c false = omega arith

pub enter_stands : (m n : PlainMonitor) (u t : ℕ) → enter m u ≡ Some n → holds_by_monitor n t ≡ holds_by_monitor m t + one_if (u == t)
enter_stands m n u t h = by_owner (owns m u) refl
  where
    by_owner : (b : Bool) → owns m u ≡ b → holds_by_monitor n t ≡ holds_by_monitor m t + one_if (u == t)
    by_owner true e =
        let o = owner_is m.owner u e in
        let s : record m { count = m.count + 1 } ≡ n = same_Some _ _ (sym (ap (λ (b : Bool). cond b (Some (record m { count = m.count + 1 }))
        (only_if (is_none m.owner && is_outside m u) (record m { owner = Some u; count = 1 }))) e) ∙ h) in
        subst (λ (k : PlainMonitor). holds_by_monitor k t ≡ holds_by_monitor m t + one_if (u == t)) s
        (stands_by (record m { count = m.count + 1 }) (Some u) t o ∙ entered m.count 0 (kept m.waits t) (kept m.called t) (u == t)
        ∙ ap (λ x. x + one_if (u == t)) (sym (stands_by m (Some u) t o)))
    by_owner false e =
        let r = cond_some (is_none m.owner && is_outside m u) (record m { owner = Some u; count = 1 }) n
        (sym (ap (λ (b : Bool). cond b (Some (record m { count = m.count + 1 }))
        (only_if (is_none m.owner && is_outside m u) (record m { owner = Some u; count = 1 }))) e) ∙ h) in
        let o = no_owner m.owner (both_true _ _ r.0).0 in
        subst (λ (k : PlainMonitor). holds_by_monitor k t ≡ holds_by_monitor m t + one_if (u == t)) r.1
        (taken (kept m.waits t) (kept m.called t) (u == t) ∙ ap (λ x. x + one_if (u == t)) (sym (stands_by m None t o)))

-- who owns a sound monitor is in no list
unkept : (m : PlainMonitor) (u : ℕ) → IsSound m → owns m u ≡ true → (kept m.waits u ≡ 0) × (kept m.called u ≡ 0)
unkept m u s e =
    let one = s.once u in let in_presence = ap one_if e in
    let a : times_in m.waits u ≡ 0 = omega (arith, one, in_presence) in
    let b : times_in m.called u ≡ 0 = omega (arith, one, in_presence) in
    (never_counted m.waits u a, never_counted m.called u b)

pub exit_stands : (m n : PlainMonitor) (u t : ℕ) → IsSound m → exit m u ≡ Some n → holds_by_monitor n t ≡ holds_by_monitor m t - one_if (u == t)
exit_stands m n u t s h =
    let r = cond_some (owns m u) _ n h in
    subst (λ (k : PlainMonitor). holds_by_monitor k t ≡ holds_by_monitor m t - one_if (u == t)) r.1 (by_count (nat_le m.count 1) refl r.0 (u == t) refl)
  where
    by_count : (b : Bool) → nat_le m.count 1 ≡ b → owns m u ≡ true → (c : Bool) → (u == t) ≡ c
        → holds_by_monitor (cond (nat_le m.count 1) (record m { owner = None; count = 0 }) (record m { count = m.count - 1 })) t
        ≡ holds_by_monitor m t - one_if (u == t)
    by_count true b own c e =
        let k = unkept m u s own in
        let was = stands_by m (Some u) t (owner_is m.owner u own) in
        let now = ap (λ (q : Bool). holds_by_monitor (cond q (record m { owner = None; count = 0 }) (record m { count = m.count - 1 })) t) b in
        now ∙ at_last c e k was
      where
        at_last : (c : Bool) → (u == t) ≡ c → (kept m.waits u ≡ 0) × (kept m.called u ≡ 0)
            → holds_by_monitor m t ≡ cond (u == t) m.count 0 + kept m.waits t + kept m.called t
            → 0 + kept m.waits t + kept m.called t ≡ holds_by_monitor m t - one_if (u == t)
        at_last true e k was =
            let same = eqb-true u t e in
            let w : kept m.waits t ≡ 0 = subst (λ v. kept m.waits v ≡ 0) same k.0 in
            let d : kept m.called t ≡ 0 = subst (λ v. kept m.called v ≡ 0) same k.1 in
            let f = ap (λ (q : Bool). cond q m.count 0) e in let g = ap one_if e in
            let small : m.count ≤ 1 = grind (arith, nat_tests) in
            omega (arith, was, w, d, f, g, small)
        at_last false e k was = let f = ap (λ (q : Bool). cond q m.count 0) e in let g = ap one_if e in omega (arith, was, f, g)
    by_count false b own c e =
        let was = stands_by m (Some u) t (owner_is m.owner u own) in
        let is = stands_by (record m { count = m.count - 1 }) (Some u) t (owner_is m.owner u own) in
        let now = ap (λ (q : Bool). holds_by_monitor (cond q (record m { owner = None; count = 0 }) (record m { count = m.count - 1 })) t) b in
        now ∙ is ∙ at_more c e was
      where
        at_more : (c : Bool) → (u == t) ≡ c → holds_by_monitor m t ≡ cond (u == t) m.count 0 + kept m.waits t + kept m.called t
            → cond (u == t) (m.count - 1) 0 + kept m.waits t + kept m.called t ≡ holds_by_monitor m t - one_if (u == t)
        at_more true e was =
            let f = ap (λ (q : Bool). cond q m.count 0) e in let j = ap (λ (q : Bool). cond q (m.count - 1) 0) e in let g = ap one_if e in
            let large : 1 < m.count = grind (arith, nat_tests) in
            omega (arith, was, f, g, j, large)
        at_more false e was = let f = ap (λ (q : Bool). cond q m.count 0) e in
            let j = ap (λ (q : Bool). cond q (m.count - 1) 0) e in let g = ap one_if e in omega (arith, was, f, g, j)

-- a count that is appended to a list
kept_end : (ps : List (ℕ × ℕ)) (p : ℕ × ℕ) (t : ℕ) → kept ps t ≡ 0 ⊎ ((p.0 == t) ≡ false)
    → times_in ps t ≡ 0 ⊎ ((p.0 == t) ≡ false) → kept (ps ++ p ∷ []) t ≡ kept ps t + cond (p.0 == t) p.1 0
kept_end [] p t h g = at (p.0 == t)
  where
    at : (b : Bool) → or_zero (cond b (Some p.1) None) ≡ 0 + cond b p.1 0
    at true = omega arith
    at false = omega arith
kept_end (q ∷ ps) p t h g = at_head (q.0 == t) h g (kept_end ps p t)
  where
    at_head : (b : Bool) → or_zero (cond b (Some q.1) (count_of ps t)) ≡ 0 ⊎ ((p.0 == t) ≡ false) → cond b 1 0 + times_in ps t ≡ 0 ⊎ ((p.0 == t) ≡ false)
        → (kept ps t ≡ 0 ⊎ ((p.0 == t) ≡ false) → times_in ps t ≡ 0 ⊎ ((p.0 == t) ≡ false) → kept (ps ++ p ∷ []) t ≡ kept ps t + cond (p.0 == t) p.1 0)
        → or_zero (cond b (Some q.1) (count_of (ps ++ p ∷ []) t)) ≡ or_zero (cond b (Some q.1) (count_of ps t)) + cond (p.0 == t) p.1 0
    at_head true x (inl y) ih = absurd (omega (arith, y))
    at_head true x (inr y) ih = let z = ap (λ (c : Bool). cond c p.1 0) y in omega (arith, z)
    at_head false x (inl y) ih = ih x (inl (omega (arith, y)))
    at_head false x (inr y) ih = ih x (inr y)

-- where the list has no count for the thread, or the new one is another's
unlisted_or : (ps : List (ℕ × ℕ)) (p : ℕ × ℕ) (t : ℕ) → ((p.0 == t) ≡ true → times_in ps t ≡ 0) → kept (ps ++ p ∷ []) t ≡ kept ps t + cond (p.0 == t) p.1 0
unlisted_or ps p t h = by_test (p.0 == t) refl
  where
    by_test : (b : Bool) → (p.0 == t) ≡ b → kept (ps ++ p ∷ []) t ≡ kept ps t + cond (p.0 == t) p.1 0
    by_test true e = kept_end ps p t (inl (never_counted ps t (h e))) (inl (h e))
    by_test false e = kept_end ps p t (inr e) (inr e)

kept_append : (ps qs : List (ℕ × ℕ)) (t : ℕ) → times_in ps t + times_in qs t ≤ 1 → kept (ps ++ qs) t ≡ kept ps t + kept qs t
kept_append [] qs t h = omega arith
kept_append (p ∷ ps) qs t h = at_head (p.0 == t) h (kept_append ps qs t)
  where
    at_head : (b : Bool) → cond b 1 0 + times_in ps t + times_in qs t ≤ 1 → (times_in ps t + times_in qs t ≤ 1 → kept (ps ++ qs) t ≡ kept ps t + kept qs t)
        → or_zero (cond b (Some p.1) (count_of (ps ++ qs) t)) ≡ or_zero (cond b (Some p.1) (count_of ps t)) + kept qs t
    at_head true g ih = let z = never_counted qs t (omega (arith, g)) in omega (arith, z)
    at_head false g ih = ih (omega (arith, g))

pub wait_stands : (m n : PlainMonitor) (u t : ℕ) → IsSound m → wait m u ≡ Some n → holds_by_monitor n t ≡ holds_by_monitor m t
wait_stands m n u t s h =
    let r = cond_some (owns m u) _ n h in
    let was = stands_by m (Some u) t (owner_is m.owner u r.0) in
    let one = s.once u in let in_presence = ap one_if r.0 in
    let none : times_in m.waits u ≡ 0 = omega (arith, one, in_presence) in
    let more = unlisted_or m.waits (u, m.count) t (λ e. subst (λ v. times_in m.waits v ≡ 0) (eqb-true u t e) none) in
    subst (λ (k : PlainMonitor). holds_by_monitor k t ≡ holds_by_monitor m t) r.1 (omega (arith, was, more))

resumed_stands : (m n : PlainMonitor) (u t : ℕ) (c : Option ℕ) → count_of m.called u ≡ c → resumed m u c ≡ Some n → holds_by_monitor n t ≡ holds_by_monitor m t
resumed_stands m n u t None e h = absurd (cc h)
resumed_stands m n u t (Some k) e h =
    let r = cond_some (is_none m.owner) (record m { owner = Some u; count = k; called = without m.called u }) n h in
    let was = stands_by m None t (no_owner m.owner r.0) in
    subst (λ (x : PlainMonitor). holds_by_monitor x t ≡ holds_by_monitor m t) r.1 (elim (cases_eq t u) [
      | inl same ↦ let a : cond (u == t) k 0 ≡ k = ap (λ (b : Bool). cond b k 0) (eq-eqb u t (sym same)) in
          let b : kept (without m.called u) t ≡ 0 =
          subst (λ v. kept (without m.called u) v ≡ 0) (sym same) (never_counted (without m.called u) u (none_without m.called u)) in
          let d : kept m.called t ≡ k = subst (λ v. kept m.called v ≡ k) (sym same) (ap or_zero e) in
          omega (arith, was, a, b, d)
      | inr other ↦ let a : cond (u == t) k 0 ≡ 0 = ap (λ (b : Bool). cond b k 0) (ne_eqb u t (λ q. other (sym q))) in
          let b = ap or_zero (without_others m.called u t other).1 in
          omega (arith, was, a, b)
    ])

pub resume_stands : (m n : PlainMonitor) (u t : ℕ) → resume m u ≡ Some n → holds_by_monitor n t ≡ holds_by_monitor m t
resume_stands m n u t h = resumed_stands m n u t (count_of m.called u) refl h

calls_stands : (m n : PlainMonitor) (t : ℕ) (ws : List (ℕ × ℕ)) (woken : Option ℕ) → m.waits ≡ ws
    → IsSound m → calls m ws woken ≡ Some n → holds_by_monitor n t ≡ holds_by_monitor m t
calls_stands m n t [] None e s h = ap (λ k. holds_by_monitor k t) (sym (same_Some m n h))
calls_stands m n t [] (Some u) e s h = absurd (cc h)
calls_stands m n t (p ∷ ps) None e s h = absurd (cc h)
calls_stands m n t (p ∷ ps) (Some u) e s h =
    let r = cond_some (p.0 == u) (record m { waits = ps; called = m.called ++ p ∷ [] }) n h in
    let one = s.once t in
    let split = ap (λ ws. times_in ws t) e in
    let waits = ap (λ ws. kept ws t) e in
    subst (λ (x : PlainMonitor). holds_by_monitor x t ≡ holds_by_monitor m t) r.1 (by_test (p.0 == t) refl one split waits)
  where
    by_test : (b : Bool) → (p.0 == t) ≡ b → presence m t ≤ 1 → times_in m.waits t ≡ cond (p.0 == t) 1 0 + times_in ps t
        → kept m.waits t ≡ or_zero (cond (p.0 == t) (Some p.1) (count_of ps t))
        → cond (owns m t) m.count 0 + kept ps t + kept (m.called ++ p ∷ []) t ≡ cond (owns m t) m.count 0 + kept m.waits t + kept m.called t
    by_test true e one split waits =
        let g = ap one_if e in
        let none : times_in ps t ≡ 0 = omega (arith, one, split, g) in
        let uncalled : times_in m.called t ≡ 0 = omega (arith, one, split, g) in
        let more = unlisted_or m.called p t (λ x. uncalled) in
        let a = never_counted ps t none in let b = ap (λ (c : Bool). or_zero (cond c (Some p.1) (count_of ps t))) e in
        let d = ap (λ (c : Bool). cond c p.1 0) e in
        omega (arith, more, a, b, d, waits)
    by_test false e one split waits =
        let more = unlisted_or m.called p t (λ x. absurd (cc (x, e))) in
        let b = ap (λ (c : Bool). or_zero (cond c (Some p.1) (count_of ps t))) e in let d = ap (λ (c : Bool). cond c p.1 0) e in
        omega (arith, more, b, d, waits)

pub notify_stands : (m n : PlainMonitor) (u t : ℕ) (woken : Option ℕ) → IsSound m → notify m u woken ≡ Some n → holds_by_monitor n t ≡ holds_by_monitor m t
notify_stands m n u t woken s h = by_owner (owns m u) h
  where
    by_owner : (b : Bool) → cond b (calls m m.waits woken) None ≡ Some n → holds_by_monitor n t ≡ holds_by_monitor m t
    by_owner true g = calls_stands m n t m.waits woken refl s g
    by_owner false g = absurd (cc g)

pub notify_all_stands : (m n : PlainMonitor) (u t k : ℕ) → IsSound m → notify_all m u k ≡ Some n → holds_by_monitor n t ≡ holds_by_monitor m t
notify_all_stands m n u t k s h =
    let r = cond_some _ (record m { waits = []; called = m.called ++ m.waits }) n h in
    let one = s.once t in
    let more = kept_append m.called m.waits t (omega (arith, one)) in
    subst (λ (x : PlainMonitor). holds_by_monitor x t ≡ holds_by_monitor m t) r.1 (omega (arith, more))
