-- Who stands among those who wait or were called after a step on a plain monitor: a wait adds its own thread, a resume
-- takes its own away, and every other step leaves all as they were.
use Rattle.std.proofs.Common.{◌≡◌, ℕ, ◌+◌, ◌==◌, ◌&&◌, ◌||◌, ◌-◌, nat_le, not, eq-eqb, ne_eqb, cond, is_none, Bool, true}
use Rattle.std.proofs.Common.{false, List, [], ◌∷◌, ◌++◌, Option, Some, None, refl, sym, ap, ◌∙◌, subst, arith, inl, inr}
use Rattle.std.proofs.Math.Bool.{or-false, and-true, and-false}
use Rattle.std.proofs.lemmas.Bool.{cases_eq}
use Rattle.std.proofs.lemmas.Option.{cond_some, same_Some}
use Rattle.plain_monitor.specs.Monitor.{PlainMonitor, only_if, owns, count_of, is_listed, without, is_outside}
use Rattle.plain_monitor.specs.Monitor.{enter, exit, wait, resumed, resume, calls, notify, notify_all}
use Rattle.plain_monitor.specs.Listed.{times_in}
use Rattle.plain_history.specs.Sound.{IsSound}
use Rattle.plain_history.proofs.HoldSteps.{one_if}
use Rattle.plain_history.proofs.SoundSteps.{resume_sound}
use Rattle.plain_history.proofs.Without.{without_others}

-- t waits or was called
abbrev pub awaits : PlainMonitor → ℕ → Bool
awaits m t = is_listed m.waits t || is_listed m.called t

-- TESTS
-- of three tests the second may stand last
second_last : (a b c : Bool) → ((a || b) || c) ≡ ((a || c) || b)
second_last true b c = refl
second_last false true true = refl
second_last false true false = refl
second_last false false true = refl
second_last false false false = refl

-- the first may stand last
first_last : (a b c : Bool) → ((a || b) || c) ≡ (b || (c || a))
first_last true true c = refl
first_last true false true = refl
first_last true false false = refl
first_last false true c = refl
first_last false false true = refl
first_last false false false = refl

or_swapped : (a b : Bool) → (a || b) ≡ (b || a)
or_swapped true true = refl
or_swapped true false = refl
or_swapped false true = refl
or_swapped false false = refl

-- LISTS
listed_joined : (ps qs : List (ℕ × ℕ)) (t : ℕ) → is_listed (ps ++ qs) t ≡ (is_listed ps t || is_listed qs t)
listed_joined [] qs t = refl
listed_joined (p ∷ ps) qs t = at_head (p.0 == t) (listed_joined ps qs t)
  where
    at_head : (b : Bool) → is_listed (ps ++ qs) t ≡ (is_listed ps t || is_listed qs t)
        → (b || is_listed (ps ++ qs) t) ≡ ((b || is_listed ps t) || is_listed qs t)
    at_head true ih = refl
    at_head false ih = ih

listed_end : (ps : List (ℕ × ℕ)) (p : ℕ × ℕ) (t : ℕ) → is_listed (ps ++ p ∷ []) t ≡ (is_listed ps t || (p.0 == t))
listed_end ps p t = listed_joined ps (p ∷ []) t ∙ ap (λ b. is_listed ps t || b) (or-false (p.0 == t))

-- a thread that is listed no time isn't listed
unlisted : (ps : List (ℕ × ℕ)) (t : ℕ) → times_in ps t ≡ 0 → is_listed ps t ≡ false
unlisted [] t h = refl
unlisted (p ∷ ps) t h = at_head (p.0 == t) h (unlisted ps t)
  where
    at_head : (b : Bool) → cond b 1 0 + times_in ps t ≡ 0 → (times_in ps t ≡ 0 → is_listed ps t ≡ false) → (b || is_listed ps t) ≡ false
    at_head true g ih = absurd (omega (arith, g))
    at_head false g ih = ih (omega (arith, g))

-- STEPS
-- the monitor once a thread from outside has taken it
abbrev taken : PlainMonitor → ℕ → PlainMonitor
taken m u = record m { owner = Some u; count = 1 }

pub enter_awaits : (m n : PlainMonitor) (u t : ℕ) → enter m u ≡ Some n → awaits n t ≡ awaits m t
enter_awaits m n u t h = by_owner (owns m u) h
  where
    by_owner : (b : Bool) → cond b (Some (record m { count = m.count + 1 })) (only_if (is_none m.owner && is_outside m u) (taken m u)) ≡ Some n
        → awaits n t ≡ awaits m t
    by_owner true g = ap (λ (k : PlainMonitor). awaits k t) (sym (same_Some (record m { count = m.count + 1 }) n g))
    by_owner false g = ap (λ (k : PlainMonitor). awaits k t) (sym (cond_some (is_none m.owner && is_outside m u) (taken m u) n g).1)

pub exit_awaits : (m n : PlainMonitor) (u t : ℕ) → exit m u ≡ Some n → awaits n t ≡ awaits m t
exit_awaits m n u t h = ap (λ (k : PlainMonitor). awaits k t) (sym (cond_some (owns m u) _ n h).1) ∙ by_count (nat_le m.count 1)
  where
    by_count : (b : Bool) → awaits (cond b (record m { owner = None; count = 0 }) (record m { count = m.count - 1 })) t ≡ awaits m t
    by_count true = refl
    by_count false = refl

pub wait_awaits : (m n : PlainMonitor) (u t : ℕ) → wait m u ≡ Some n → awaits n t ≡ (awaits m t || (u == t))
wait_awaits m n u t h =
    ap (λ (k : PlainMonitor). awaits k t) (sym (cond_some (owns m u) _ n h).1)
    ∙ ap (λ b. b || is_listed m.called t) (listed_end m.waits (u, m.count) t)
    ∙ second_last (is_listed m.waits t) (u == t) (is_listed m.called t)

-- who owns a sound monitor neither waits nor was called
owner_awaits_nothing : (m : PlainMonitor) (u : ℕ) → IsSound m → owns m u ≡ true → awaits m u ≡ false
owner_awaits_nothing m u s own =
    let one = s.once u in let in_presence = ap one_if own in
    let w = unlisted m.waits u (omega (arith, one, in_presence)) in
    let c = unlisted m.called u (omega (arith, one, in_presence)) in
    λ i. w i || c i

resumed_awaits : (m n : PlainMonitor) (u t : ℕ) (c : Option ℕ) → IsSound n → resumed m u c ≡ Some n
    → awaits n t ≡ (awaits m t && not (u == t))
resumed_awaits m n u t None s h = absurd (cc h)
resumed_awaits m n u t (Some k) s h =
    let after : PlainMonitor = record { owner = Some u; count = k; waits = m.waits; called = without m.called u } in
    let is : after ≡ n = (cond_some (is_none m.owner) after n h).1 in
    elim (cases_eq t u) [
      | inl same ↦
          let own : (u == u) ≡ true = eq-eqb u u refl in
          let gone : awaits n u ≡ false = owner_awaits_nothing n u s (ap (λ (x : PlainMonitor). owns x u) (sym is) ∙ own) in
          subst (λ v. awaits n v ≡ (awaits m v && not (u == v))) (sym same)
          (gone ∙ sym (ap (λ b. awaits m u && not b) own ∙ and-false (awaits m u)))
      | inr other ↦
          let d : (u == t) ≡ false = ne_eqb u t (λ q. other (sym q)) in
          ap (λ (x : PlainMonitor). awaits x t) (sym is)
          ∙ ap (λ b. is_listed m.waits t || b) (without_others m.called u t other).0
          ∙ sym (ap (λ b. awaits m t && not b) d ∙ and-true (awaits m t))
    ]

pub resume_awaits : (m n : PlainMonitor) (u t : ℕ) → IsSound m → resume m u ≡ Some n → awaits n t ≡ (awaits m t && not (u == t))
resume_awaits m n u t s h = resumed_awaits m n u t (count_of m.called u) (resume_sound m n u s h) h

calls_awaits : (m n : PlainMonitor) (t : ℕ) (ws : List (ℕ × ℕ)) (woken : Option ℕ) → m.waits ≡ ws → calls m ws woken ≡ Some n
    → awaits n t ≡ awaits m t
calls_awaits m n t [] None e h = ap (λ k. awaits k t) (sym (same_Some m n h))
calls_awaits m n t [] (Some u) e h = absurd (cc h)
calls_awaits m n t (p ∷ ps) None e h = absurd (cc h)
calls_awaits m n t (p ∷ ps) (Some u) e h =
    ap (λ (k : PlainMonitor). awaits k t) (sym (cond_some (p.0 == u) (record m { waits = ps; called = m.called ++ p ∷ [] }) n h).1)
    ∙ ap (λ b. is_listed ps t || b) (listed_end m.called p t)
    ∙ sym (first_last (p.0 == t) (is_listed ps t) (is_listed m.called t))
    ∙ ap (λ ws. is_listed ws t || is_listed m.called t) (sym e)

pub notify_awaits : (m n : PlainMonitor) (u t : ℕ) (woken : Option ℕ) → notify m u woken ≡ Some n → awaits n t ≡ awaits m t
notify_awaits m n u t woken h = by_owner (owns m u) h
  where
    by_owner : (b : Bool) → cond b (calls m m.waits woken) None ≡ Some n → awaits n t ≡ awaits m t
    by_owner true g = calls_awaits m n t m.waits woken refl g
    by_owner false g = absurd (cc g)

pub notify_all_awaits : (m n : PlainMonitor) (u t k : ℕ) → notify_all m u k ≡ Some n → awaits n t ≡ awaits m t
notify_all_awaits m n u t k h =
    ap (λ (x : PlainMonitor). awaits x t) (sym (cond_some _ (record m { waits = []; called = m.called ++ m.waits }) n h).1)
    ∙ listed_joined m.called m.waits t ∙ or_swapped (is_listed m.called t) (is_listed m.waits t)
