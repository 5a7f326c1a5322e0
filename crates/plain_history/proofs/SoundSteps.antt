-- Each step keeps a monitor sound.
use Rattle.std.proofs.Common.{◌≡◌, ℕ, ◌+◌, ◌-◌, ◌<◌, ◌≤◌, Bool, true, false, cond, not, ◌&&◌, ◌==◌, nat_le, List}
use Rattle.std.proofs.Common.{[], ◌∷◌, ◌++◌, length, refl, ap, sym, subst, ◌∙◌, arith, Option, Some, None}
use Rattle.std.proofs.lemmas.Bool.Decides.{nat_tests}
use Rattle.std.proofs.lemmas.Option.{cond_some, same_Some}
use Rattle.plain_monitor.specs.Monitor.{PlainMonitor, free_monitor, is_thread, owns, count_of, is_listed, without}
use Rattle.plain_monitor.specs.Monitor.{is_outside, enter, exit, wait, resume, calls, notify, notify_all}
use Rattle.plain_monitor.specs.Listed.{times_in}
use Rattle.plain_history.specs.Sound.{HaveCounts, IsSound}

-- the monitor is sound at first
pub free_sound : IsSound free_monitor
free_sound = record { held = refl; waits = tt; called = tt; once = λ t. omega arith }

-- the next lemma, by the test against the head
never_listed_at_head : (p : ℕ × ℕ) (ps : List (ℕ × ℕ)) (t : ℕ) (b : Bool) → (p.0 == t) ≡ b
    → is_listed (p ∷ ps) t ≡ false → (is_listed ps t ≡ false → times_in ps t ≡ 0)
    → times_in (p ∷ ps) t ≡ 0
never_listed_at_head p ps t true e h ih = absurd (cc (rw e at h))
never_listed_at_head p ps t false e h ih = let k = ih (rw e at h) in rw e (omega (arith, k))

-- a thread that is not listed is listed no time
never_listed : (ps : List (ℕ × ℕ)) (t : ℕ) → is_listed ps t ≡ false → times_in ps t ≡ 0
never_listed [] t h = refl
never_listed (p ∷ ps) t h = never_listed_at_head p ps t (p.0 == t) refl h (never_listed ps t)

-- all have counts where one that has one is put at the end
counts_end : (ps : List (ℕ × ℕ)) (p : ℕ × ℕ) → HaveCounts ps → 0 < p.1 → HaveCounts (ps ++ p ∷ [])
counts_end [] p a h = (h, tt)
counts_end (q ∷ ps) p a h = (a.0, counts_end ps p a.1 h)

-- all have counts where two lists are joined
counts_joined : (ps qs : List (ℕ × ℕ)) → HaveCounts ps → HaveCounts qs → HaveCounts (ps ++ qs)
counts_joined [] qs a b = b
counts_joined (q ∷ ps) qs a b = (a.0, counts_joined ps qs a.1 b)

-- a thread is listed in two lists as often as in the one and in the other
times_joined : (ps qs : List (ℕ × ℕ)) (t : ℕ) → times_in (ps ++ qs) t ≡ times_in ps t + times_in qs t
times_joined [] qs t = omega arith
times_joined (p ∷ ps) qs t = omega (arith, times_joined ps qs t)

-- how often a thread is listed where one is put at the end
times_end : (ps : List (ℕ × ℕ)) (p : ℕ × ℕ) (t : ℕ) → times_in (ps ++ p ∷ []) t ≡ times_in ps t + cond (p.0 == t) 1 0
times_end ps p t = omega (arith, times_joined ps (p ∷ []) t)

-- how often a thread is listed where one stands at the front
times_front : (p : ℕ × ℕ) (ps : List (ℕ × ℕ)) (t : ℕ) → times_in (p ∷ ps) t ≡ cond (p.0 == t) 1 0 + times_in ps t
times_front p ps t = refl

-- both parts of a test that holds hold
pub both_true : (a b : Bool) → (a && b) ≡ true → (a ≡ true) × (b ≡ true)
both_true true b h = (refl, h)
both_true false b h = absurd (cc h)

-- what is not true is false
not_true : (a : Bool) → not a ≡ true → a ≡ false
not_true true h = absurd (cc h)
not_true false h = refl

-- the monitor of these parts
abbrev pub monitor_with : Option ℕ → ℕ → List (ℕ × ℕ) → List (ℕ × ℕ) → PlainMonitor
monitor_with o c w k = record { owner = o; count = c; waits = w; called = k }

-- a thread from outside becomes the owner: each still stands once
enters_once : (t u : ℕ) (w k : List (ℕ × ℕ)) (b : Bool) → (t == u) ≡ b → times_in w t ≡ 0 → times_in k t ≡ 0 → times_in w u + times_in k u ≤ 1
    → cond b 1 0 + times_in w u + times_in k u ≤ 1
enters_once t u w k true e p q h = let same : t ≡ u = grind (arith, nat_tests, e) in omega (arith, ap (times_in w) same, ap (times_in k) same)
enters_once t u w k false e p q h = omega arith

-- an enter of a free monitor keeps it sound
enter_free : (c t : ℕ) (w k : List (ℕ × ℕ)) (n : PlainMonitor) → IsSound (monitor_with None c w k) → enter (monitor_with None c w k) t ≡ Some n → IsSound n
enter_free c t w k n s h =
    let r = cond_some (is_outside (monitor_with None c w k) t) (monitor_with (Some t) 1 w k) n h in
    let o = both_true (not (is_listed w t)) (not (is_listed k t)) r.0 in
    let p = never_listed w t (not_true (is_listed w t) o.0) in
    let q = never_listed k t (not_true (is_listed k t) o.1) in
    subst IsSound r.1 (record {
      held = omega arith;
      waits = s.waits;
      called = s.called;
      once = λ u. enters_once t u w k (t == u) refl p q (let g = s.once u in omega (arith, g));
    })

-- an enter of a monitor that has an owner keeps it sound
enter_again : (u c t : ℕ) (w k : List (ℕ × ℕ)) (n : PlainMonitor) (b : Bool) → (u == t) ≡ b
    → IsSound (monitor_with (Some u) c w k) → enter (monitor_with (Some u) c w k) t ≡ Some n → IsSound n
enter_again u c t w k n true e s h =
    let r : monitor_with (Some u) (c + 1) w k ≡ n = same_Some _ _ (rw e at h) in
    subst IsSound r (record { held = omega arith; waits = s.waits; called = s.called; once = s.once })
enter_again u c t w k n false e s h = absurd (cc (rw e at h))

-- an enter keeps the monitor sound, by the owner
enter_by_owner : (o : Option ℕ) (c t : ℕ) (w k : List (ℕ × ℕ)) (n : PlainMonitor)
    → IsSound (monitor_with o c w k) → enter (monitor_with o c w k) t ≡ Some n → IsSound n
enter_by_owner None c t w k n s h = enter_free c t w k n s h
enter_by_owner (Some u) c t w k n s h = enter_again u c t w k n (u == t) refl s h

-- an enter keeps the monitor sound
pub enter_sound : (m n : PlainMonitor) (t : ℕ) → IsSound m → enter m t ≡ Some n → IsSound n
enter_sound m n t s h = enter_by_owner m.owner m.count t m.waits m.called n s h

-- where t owns the monitor, the owner is t
pub owner_is : (o : Option ℕ) (t : ℕ) → is_thread o t ≡ true → o ≡ Some t
owner_is None t h = absurd (cc h)
owner_is (Some u) t h = let e : u ≡ t = grind (arith, nat_tests, h) in ap Some e

-- an exit of the owner keeps the monitor sound, by the test for its last one
exit_by_count : (c t : ℕ) (w k : List (ℕ × ℕ)) (b : Bool) → nat_le c 1 ≡ b → IsSound (monitor_with (Some t) c w k)
    → IsSound (cond b (monitor_with None 0 w k) (monitor_with (Some t) (c - 1) w k))
exit_by_count c t w k true e s = record { held = refl; waits = s.waits; called = s.called; once = λ u. let g = s.once u in omega (arith, g) }
exit_by_count c t w k false e s =
    let more : 1 < c = grind (arith, nat_tests, e) in record { held = omega arith; waits = s.waits; called = s.called; once = s.once }

-- an exit keeps the monitor sound
pub exit_sound : (m n : PlainMonitor) (t : ℕ) → IsSound m → exit m t ≡ Some n → IsSound n
exit_sound m n t s h =
    let r = cond_some (owns m t) (cond (nat_le m.count 1) (monitor_with None 0 m.waits m.called) (monitor_with m.owner (m.count - 1) m.waits m.called)) n h in
    let e = owner_is m.owner t r.0 in
    let s' : IsSound (monitor_with (Some t) m.count m.waits m.called) = subst (λ o. IsSound (monitor_with o m.count m.waits m.called)) e s in
    let is = ap (λ o. cond (nat_le m.count 1) (monitor_with None 0 m.waits m.called) (monitor_with o (m.count - 1) m.waits m.called)) (sym e) ∙ r.1 in
    subst IsSound is (exit_by_count m.count t m.waits m.called (nat_le m.count 1) refl s')

-- a wait keeps the monitor sound
pub wait_sound : (m n : PlainMonitor) (t : ℕ) → IsSound m → wait m t ≡ Some n → IsSound n
wait_sound m n t s h =
    let r = cond_some (owns m t) (monitor_with None 0 (m.waits ++ (t, m.count) ∷ []) m.called) n h in
    let e = owner_is m.owner t r.0 in
    let s' : IsSound (monitor_with (Some t) m.count m.waits m.called) = subst (λ o. IsSound (monitor_with o m.count m.waits m.called)) e s in
    subst IsSound r.1 (record {
      held = refl;
      waits = counts_end m.waits (t, m.count) s.waits s'.held;
      called = s.called;
      once = λ u. let g = s'.once u in omega (arith, g, times_end m.waits (t, m.count) u);
    })

-- a notify of all keeps the monitor sound
pub notify_all_sound : (m n : PlainMonitor) (t w : ℕ) → IsSound m → notify_all m t w ≡ Some n → IsSound n
notify_all_sound m n t w s h =
    let r = cond_some (owns m t && (length m.waits == w)) (monitor_with m.owner m.count [] (m.called ++ m.waits)) n h in
    subst IsSound r.1 (record {
      held = s.held;
      waits = tt;
      called = counts_joined m.called m.waits s.called s.waits;
      once = λ u. let g = s.once u in omega (arith, g, times_joined m.called m.waits u);
    })

-- calling the oldest of those who wait keeps the monitor sound
calls_sound : (m n : PlainMonitor) (w : List (ℕ × ℕ)) (woken : Option ℕ) → IsSound (monitor_with m.owner m.count w m.called)
    → calls (monitor_with m.owner m.count w m.called) w woken ≡ Some n → IsSound n
calls_sound m n [] None s h = subst IsSound (same_Some _ _ h) s
calls_sound m n [] (Some u) s h = absurd (cc h)
calls_sound m n (p ∷ ps) None s h = absurd (cc h)
calls_sound m n (p ∷ ps) (Some u) s h =
    let r = cond_some (p.0 == u) (monitor_with m.owner m.count ps (m.called ++ p ∷ [])) n h in
    subst IsSound r.1 (record {
      held = s.held;
      waits = s.waits.1;
      called = counts_end m.called p s.called s.waits.0;
      once = λ v. let g = s.once v in let f = times_front p ps v in omega (arith, g, f, times_end m.called p v);
    })

-- a notify keeps the monitor sound, by the test for the owner
notify_by_owner : (m n : PlainMonitor) (t : ℕ) (woken : Option ℕ) (b : Bool) → owns m t ≡ b → IsSound m → notify m t woken ≡ Some n → IsSound n
notify_by_owner m n t woken true e s h = calls_sound m n m.waits woken s (rw e at h)
notify_by_owner m n t woken false e s h = absurd (cc (rw e at h))

-- a notify keeps the monitor sound
pub notify_sound : (m n : PlainMonitor) (t : ℕ) (woken : Option ℕ) → IsSound m → notify m t woken ≡ Some n → IsSound n
notify_sound m n t woken s h = notify_by_owner m n t woken (owns m t) refl s h

-- the next lemma, by the test against the head
none_without_at_head : (p : ℕ × ℕ) (ps : List (ℕ × ℕ)) (t : ℕ) (b : Bool) → (p.0 == t) ≡ b → times_in (without ps t) t ≡ 0 → times_in (without (p ∷ ps) t) t ≡ 0
none_without_at_head p ps t true e ih = rw e ih
none_without_at_head p ps t false e ih = rw (e, e) (omega (arith, ih))

-- a thread that was taken out is listed no time
pub none_without : (ps : List (ℕ × ℕ)) (t : ℕ) → times_in (without ps t) t ≡ 0
none_without [] t = refl
none_without (p ∷ ps) t = none_without_at_head p ps t (p.0 == t) refl (none_without ps t)

-- the next lemma, by the test against the head
fewer_without_at_head : (p : ℕ × ℕ) (ps : List (ℕ × ℕ)) (t u : ℕ) (b : Bool) → (p.0 == t) ≡ b → times_in (without ps t) u ≤ times_in ps u
    → times_in (without (p ∷ ps) t) u ≤ times_in (p ∷ ps) u
fewer_without_at_head p ps t u true e ih = rw e (omega arith)
fewer_without_at_head p ps t u false e ih = rw e (omega arith)

-- no thread is listed more often where one was taken out
fewer_without : (ps : List (ℕ × ℕ)) (t u : ℕ) → times_in (without ps t) u ≤ times_in ps u
fewer_without [] t u = omega arith
fewer_without (p ∷ ps) t u = fewer_without_at_head p ps t u (p.0 == t) refl (fewer_without ps t u)

-- the next lemma, by the test against the head
counts_without_at_head : (p : ℕ × ℕ) (ps : List (ℕ × ℕ)) (t : ℕ) (b : Bool)
    → (p.0 == t) ≡ b → 0 < p.1 → HaveCounts (without ps t) → HaveCounts (without (p ∷ ps) t)
counts_without_at_head p ps t true e h ih = rw e ih
counts_without_at_head p ps t false e h ih = rw e (h, ih)

-- the others keep their counts where a thread is taken out
counts_without : (ps : List (ℕ × ℕ)) (t : ℕ) → HaveCounts ps → HaveCounts (without ps t)
counts_without [] t a = tt
counts_without (p ∷ ps) t a = counts_without_at_head p ps t (p.0 == t) refl a.0 (counts_without ps t a.1)

-- the next lemma, by the test against the head
counted_at_head : (p : ℕ × ℕ) (ps : List (ℕ × ℕ)) (t c : ℕ) (b : Bool) → (p.0 == t) ≡ b → 0 < p.1 → count_of (p ∷ ps) t ≡ Some c
    → (count_of ps t ≡ Some c → (1 ≤ times_in ps t) × (0 < c)) → (1 ≤ times_in (p ∷ ps) t) × (0 < c)
counted_at_head p ps t c true e h k ih = let r : p.1 ≡ c = same_Some _ _ (rw e at k) in (rw e (omega arith), omega arith)
counted_at_head p ps t c false e h k ih = let r = ih (rw e at k) in rw e (omega (arith, r.0), r.1)

-- a thread with a count is listed, and the count is above 0
counted : (ps : List (ℕ × ℕ)) (t c : ℕ) → HaveCounts ps → count_of ps t ≡ Some c → (1 ≤ times_in ps t) × (0 < c)
counted [] t c a h = absurd (cc h)
counted (p ∷ ps) t c a h = counted_at_head p ps t c (p.0 == t) refl a.0 h (counted ps t c a.1)

-- a thread that was called becomes the owner: each still stands once
resumes_once : (t u : ℕ) (w k : List (ℕ × ℕ)) (b : Bool) → (t == u) ≡ b → 1 ≤ times_in k t → times_in w u + times_in k u ≤ 1
    → cond b 1 0 + times_in w u + times_in (without k t) u ≤ 1
resumes_once t u w k true e p q =
    let same : t ≡ u = grind (arith, nat_tests, e) in
    let none = ap (times_in (without k t)) (sym same) ∙ none_without k t in
    omega (arith, none, ap (times_in k) same)
resumes_once t u w k false e p q = omega (arith, fewer_without k t u)

-- a free monitor stays sound where a thread that was called takes it
resume_free : (c t n : ℕ) (w k : List (ℕ × ℕ)) → count_of k t ≡ Some n → IsSound (monitor_with None c w k) → IsSound (monitor_with (Some t) n w (without k t))
resume_free c t n w k e s =
    let l = counted k t n s.called e in
    record {
      held = l.1;
      waits = s.waits;
      called = counts_without k t s.called;
      once = λ u. resumes_once t u w k (t == u) refl l.0 (let g = s.once u in omega (arith, g));
    }

-- a resume keeps the monitor sound, by the owner and the count that the thread had
resume_by_cases : (m n : PlainMonitor) (t : ℕ) (o : Option ℕ) (c : Option ℕ)
    → m.owner ≡ o → count_of m.called t ≡ c → IsSound m → resume m t ≡ Some n → IsSound n
resume_by_cases m n t o None eo e s h = absurd (cc (rw e at h))
resume_by_cases m n t None (Some c) eo e s h =
    let k = rw (e, eo) at h in
    subst IsSound (same_Some _ _ k) (resume_free m.count t c m.waits m.called e (subst (λ v. IsSound (monitor_with v m.count m.waits m.called)) eo s))
resume_by_cases m n t (Some u) (Some c) eo e s h = absurd (cc (rw (e, eo) at h))

-- a resume keeps the monitor sound
pub resume_sound : (m n : PlainMonitor) (t : ℕ) → IsSound m → resume m t ≡ Some n → IsSound n
resume_sound m n t s h = resume_by_cases m n t m.owner (count_of m.called t) refl refl s h
