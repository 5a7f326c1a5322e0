-- The lists of a monitor's threads, through what entries do.
use Rattle.std.proofs.Common.{◌≡◌, ◌≢◌, ℕ, ◌+◌, ◌-◌, ◌≤◌, Bool, true, false, nat_le, ◌==◌, if◌then◌else◌}
use Rattle.std.proofs.Common.{List, [], ◌∷◌, ◌++◌, length, Option, Some, None, refl, sym, ap, arith, ◌∙◌}
use Rattle.std.proofs.lemmas.List.{length-append, append-nil}
use Rattle.std.proofs.lemmas.Bool.Decides.{nat_tests}
use Rattle.std.proofs.lemmas.Option.{same_Some, cond_some, none-some}
use Rattle.plain_monitor.specs.Monitor.{PlainMonitor, count_of, without, owns, enter, exit, wait, resumed, calls, notify, notify_all}
use Rattle.plain_monitor.specs.Listed.{tally, times_in, counts_in}
use Rattle.plain_machine.proofs.Tallies.{tally_joined, tally_none, tally_without, counted_times}

-- what is taken out is as much as stood there
pub length-without : (ps : List (ℕ × ℕ)) (t : ℕ) → length (without ps t) + times_in ps t ≡ length ps
length-without [] t = refl
length-without (p ∷ ps) t = go (p.0 == t) refl (length-without ps t)
  where
    go : (b : Bool) → (p.0 == t) ≡ b → length (without ps t) + times_in ps t ≡ length ps
        → length (without (p ∷ ps) t) + times_in (p ∷ ps) t ≡ length (p ∷ ps)
    go true e ih = rw e (omega (arith, ih))
    go false e ih = rw e (omega (arith, ih))

-- nothing is added
tally_less : (w : ℕ × ℕ → ℕ) (ps : List (ℕ × ℕ)) (t u : ℕ) → tally w (without ps t) u ≤ tally w ps u
tally_less w [] t u = omega arith
tally_less w (p ∷ ps) t u = go (p.0 == t) refl (tally_less w ps t u)
  where
    go : (b : Bool) → (p.0 == t) ≡ b → tally w (without ps t) u ≤ tally w ps u → tally w (without (p ∷ ps) t) u ≤ tally w (p ∷ ps) u
    go true e ih = rw e (omega (arith, ih))
    go false e ih = rw e (omega (arith, ih))

counted_due : (ps : List (ℕ × ℕ)) (t c : ℕ) → count_of ps t ≡ Some c → c ≤ counts_in ps t
counted_due [] t c h = absurd (none-some c h)
counted_due (p ∷ ps) t c h = go (p.0 == t) refl (counted_due ps t c)
  where
    go : (b : Bool) → (p.0 == t) ≡ b → (count_of ps t ≡ Some c → c ≤ counts_in ps t) → c ≤ counts_in (p ∷ ps) t
    go true e ih = let is : p.1 ≡ c = same_Some p.1 c (rw e at h) in rw e (omega (arith, is))
    go false e ih = let later = ih (rw e at h) in rw e (omega (arith, later))

-- a thread that is found with a count stands in the list, and has that count
pub record IsFound (ps : List (ℕ × ℕ)) (t c : ℕ) : Type 0 where
  pub once : 1 ≤ times_in ps t
  pub due : c ≤ counts_in ps t

pub found : (ps : List (ℕ × ℕ)) (t c : ℕ) → count_of ps t ≡ Some c → IsFound ps t c
found ps t c h = record { once = counted_times ps t c h; due = counted_due ps t c h }

-- a thread stands no more often in the lists of n than in those of m, and has no more counts there
pub record IsFewer (m n : PlainMonitor) (u : ℕ) : Type 0 where
  pub once : times_in n.waits u + times_in n.called u ≤ times_in m.waits u + times_in m.called u
  pub due : counts_in n.waits u + counts_in n.called u ≤ counts_in m.waits u + counts_in m.called u

-- the lists stay as they are
pub record HasSameLists (m n : PlainMonitor) : Type 0 where
  pub waits : n.waits ≡ m.waits
  pub called : n.called ≡ m.called

lists_same : (m n : PlainMonitor) → m ≡ n → HasSameLists m n
lists_same m n q = record { waits = sym (ap (λ (z : PlainMonitor). z.waits) q); called = sym (ap (λ (z : PlainMonitor). z.called) q) }

pub fewer_same : (m n : PlainMonitor) (u : ℕ) → HasSameLists m n → IsFewer m n u
fewer_same m n u q = record {
  once = rw (q.waits, q.called) (omega arith);
  due = rw (q.waits, q.called) (omega arith);
}

pub length_same : (m n : PlainMonitor) → HasSameLists m n → length n.waits + length n.called ≡ length m.waits + length m.called
length_same m n q = rw (q.waits, q.called) refl

enter_at : (m n : PlainMonitor) (t : ℕ) (own : Bool) → owns m t ≡ own → enter m t ≡ Some n → HasSameLists m n
enter_at m n t true e s =
    let q = same_Some (record m { count = m.count + 1 }) n (rw e at s) in
    record { waits = sym (ap (λ (z : PlainMonitor). z.waits) q); called = sym (ap (λ (z : PlainMonitor). z.called) q) }
enter_at m n t false e s =
    let q = cond_some _ (record m { owner = Some t; count = 1 }) n (rw e at s) in
    record { waits = sym (ap (λ (z : PlainMonitor). z.waits) q.1); called = sym (ap (λ (z : PlainMonitor). z.called) q.1) }

pub lists_enter : (m n : PlainMonitor) (t : ℕ) → enter m t ≡ Some n → HasSameLists m n
lists_enter m n t s = enter_at m n t (owns m t) refl s

exit_at : (m n : PlainMonitor) (t : ℕ) (last : Bool) → nat_le m.count 1 ≡ last → exit m t ≡ Some n → HasSameLists m n
exit_at m n t true f s =
    let q = cond_some _ (record m { owner = None; count = 0 }) n (rw f at s) in
    record { waits = sym (ap (λ (z : PlainMonitor). z.waits) q.1); called = sym (ap (λ (z : PlainMonitor). z.called) q.1) }
exit_at m n t false f s =
    let q = cond_some _ (record m { count = m.count - 1 }) n (rw f at s) in
    record { waits = sym (ap (λ (z : PlainMonitor). z.waits) q.1); called = sym (ap (λ (z : PlainMonitor). z.called) q.1) }

pub lists_exit : (m n : PlainMonitor) (t : ℕ) → exit m t ≡ Some n → HasSameLists m n
lists_exit m n t s = exit_at m n t (nat_le m.count 1) refl s

-- t is last in the list of those who wait, with this count
pub record HasLast (m n : PlainMonitor) (t c : ℕ) : Type 0 where
  pub waits : n.waits ≡ m.waits ++ (t, c) ∷ []
  pub called : n.called ≡ m.called

pub lists_wait : (m n : PlainMonitor) (t : ℕ) → wait m t ≡ Some n → HasLast m n t m.count
lists_wait m n t s =
    let q = cond_some _ (record m { owner = None; count = 0; waits = m.waits ++ (t, m.count) ∷ [] }) n s in
    record { waits = sym (ap (λ (z : PlainMonitor). z.waits) q.1); called = sym (ap (λ (z : PlainMonitor). z.called) q.1) }

tally_push : (w : ℕ × ℕ → ℕ) (ps : List (ℕ × ℕ)) (p : ℕ × ℕ) (u : ℕ) → tally w (ps ++ p ∷ []) u ≡ tally w ps u + (if p.0 == u then w p else 0)
tally_push w ps p u = omega (arith, tally_joined w ps (p ∷ []) u)

tally_push_other : (w : ℕ × ℕ → ℕ) (ps : List (ℕ × ℕ)) (p : ℕ × ℕ) (u : ℕ) → (p.0 == u) ≡ false → tally w (ps ++ p ∷ []) u ≡ tally w ps u
tally_push_other w ps p u e =
    let q : tally w (ps ++ p ∷ []) u ≡ tally w ps u + 0 = tally_push w ps p u ∙ ap (λ b. tally w ps u + (if b then w p else 0)) e in omega arith

tally_push_same : (w : ℕ × ℕ → ℕ) (ps : List (ℕ × ℕ)) (p : ℕ × ℕ) (u : ℕ) → (p.0 == u) ≡ true → tally w (ps ++ p ∷ []) u ≡ tally w ps u + w p
tally_push_same w ps p u e = tally_push w ps p u ∙ ap (λ b. tally w ps u + (if b then w p else 0)) e

-- the others stand there no more often
pub fewer_wait : (m n : PlainMonitor) (t c u : ℕ) → HasLast m n t c → u ≢ t → IsFewer m n u
fewer_wait m n t c u h d =
    let e : (t == u) ≡ false = grind (arith, nat_tests, d) in
    record {
      once = rw (h.waits, h.called) (omega (arith, tally_push_other (λ q. 1) m.waits (t, c) u e));
      due = rw (h.waits, h.called) (omega (arith, tally_push_other (λ q. q.1) m.waits (t, c) u e));
    }

-- t stands there once more
pub record StandsOnceMore (m n : PlainMonitor) (t c : ℕ) : Type 0 where
  pub once : times_in n.waits t + times_in n.called t ≡ times_in m.waits t + times_in m.called t + 1
  pub due : counts_in n.waits t + counts_in n.called t ≡ counts_in m.waits t + counts_in m.called t + c

pub once_more : (m n : PlainMonitor) (t c : ℕ) → HasLast m n t c → StandsOnceMore m n t c
once_more m n t c h =
    let e : (t == t) ≡ true = grind (arith, nat_tests) in
    record {
      once = rw (h.waits, h.called) (omega (arith, tally_push_same (λ q. 1) m.waits (t, c) t e));
      due = rw (h.waits, h.called) (omega (arith, tally_push_same (λ q. q.1) m.waits (t, c) t e));
    }

pub length_wait : (m n : PlainMonitor) (t c : ℕ) → HasLast m n t c → length n.waits + length n.called ≡ length m.waits + length m.called + 1
length_wait m n t c h = rw (h.waits, h.called) (omega (arith, length-append m.waits ((t, c) ∷ [])))

-- what moves from the one list to the other
pub record HasMoved (m n : PlainMonitor) (ps : List (ℕ × ℕ)) : Type 0 where
  pub waits : m.waits ≡ ps ++ n.waits
  pub called : n.called ≡ m.called ++ ps

pub fewer_moved : (m n : PlainMonitor) (ps : List (ℕ × ℕ)) (u : ℕ) → HasMoved m n ps → IsFewer m n u
fewer_moved m n ps u h = record {
  once =
      rw (h.waits, h.called) (omega (arith, tally_joined (λ p. 1) ps n.waits u, tally_joined (λ p. 1) m.called ps u));
  due =
      rw (h.waits, h.called) (omega (arith, tally_joined (λ p. p.1) ps n.waits u, tally_joined (λ p. p.1) m.called ps u));
}

pub length_moved : (m n : PlainMonitor) (ps : List (ℕ × ℕ)) → HasMoved m n ps → length n.waits + length n.called ≡ length m.waits + length m.called
length_moved m n ps h = rw (h.waits, h.called) (omega (arith, length-append ps n.waits, length-append m.called ps))

-- some move
pub record HasSomeMoved (m n : PlainMonitor) : Type 0 where
  pub who : List (ℕ × ℕ)
  pub moved : HasMoved m n who

calls_moved : (m n : PlainMonitor) (ws : List (ℕ × ℕ)) (woken : Option ℕ) → m.waits ≡ ws → calls m ws woken ≡ Some n → HasSomeMoved m n
calls_moved m n [] None e s =
    let q = lists_same m n (same_Some m n s) in
    record { who = []; moved = record { waits = sym q.waits; called = q.called ∙ sym (append-nil m.called) } }
calls_moved m n [] (Some u) e s = absurd (none-some n s)
calls_moved m n (p ∷ ps) None e s = absurd (none-some n s)
calls_moved m n (p ∷ ps) (Some u) e s =
    let q = cond_some _ (record m { waits = ps; called = m.called ++ p ∷ [] }) n s in
    let w : ps ≡ n.waits = ap (λ (z : PlainMonitor). z.waits) q.1 in
    record {
      who = p ∷ [];
      moved = record { waits = e ∙ ap (λ xs. p ∷ xs) w; called = sym (ap (λ (z : PlainMonitor). z.called) q.1) };
    }

notify_at : (m n : PlainMonitor) (t : ℕ) (woken : Option ℕ) (own : Bool) → owns m t ≡ own → notify m t woken ≡ Some n → HasSomeMoved m n
notify_at m n t woken true e s = calls_moved m n m.waits woken refl (rw e at s)
notify_at m n t woken false e s = let q : None ≡ Some n = rw e at s in absurd (none-some n q)

pub moved_notify : (m n : PlainMonitor) (t : ℕ) (woken : Option ℕ) → notify m t woken ≡ Some n → HasSomeMoved m n
moved_notify m n t woken s = notify_at m n t woken (owns m t) refl s

pub moved_notify_all : (m n : PlainMonitor) (t k : ℕ) → notify_all m t k ≡ Some n → HasSomeMoved m n
moved_notify_all m n t k s =
    let q = cond_some _ (record m { waits = []; called = m.called ++ m.waits }) n s in
    let w : n.waits ≡ [] = sym (ap (λ (z : PlainMonitor). z.waits) q.1) in
    record {
      who = m.waits;
      moved = record { waits = sym (append-nil m.waits) ∙ ap (λ xs. m.waits ++ xs) (sym w); called = sym (ap (λ (z : PlainMonitor). z.called) q.1) };
    }

-- t is taken out of the list of those who were called
pub record IsOut (m n : PlainMonitor) (t : ℕ) : Type 0 where
  pub waits : n.waits ≡ m.waits
  pub called : n.called ≡ without m.called t

pub lists_resumed : (m n : PlainMonitor) (t c : ℕ) → resumed m t (Some c) ≡ Some n → IsOut m n t
lists_resumed m n t c s =
    let q = cond_some _ (record m { owner = Some t; count = c; called = without m.called t }) n s in
    record { waits = sym (ap (λ (z : PlainMonitor). z.waits) q.1); called = sym (ap (λ (z : PlainMonitor). z.called) q.1) }

pub fewer_out : (m n : PlainMonitor) (t u : ℕ) → IsOut m n t → IsFewer m n u
fewer_out m n t u h = record {
  once = rw (h.waits, h.called) (omega (arith, tally_less (λ p. 1) m.called t u));
  due = rw (h.waits, h.called) (omega (arith, tally_less (λ p. p.1) m.called t u));
}

-- who stood there once, among those who were called, stands there no more
pub record IsGone (n : PlainMonitor) (t : ℕ) : Type 0 where
  pub once : times_in n.waits t + times_in n.called t ≡ 0
  pub due : counts_in n.waits t + counts_in n.called t ≡ 0

pub gone_out : (m n : PlainMonitor) (t : ℕ) → times_in m.waits t ≡ 0 → IsOut m n t → IsGone n t
gone_out m n t w h =
    let none = tally_without (λ q. 1) m.called t in
    record {
      once = rw (h.waits, h.called) (omega (arith, w, none));
      due = rw (h.waits, h.called) (omega (arith, tally_none (λ q. q.1) m.waits t w, tally_without (λ q. q.1) m.called t));
    }

pub length_out : (m n : PlainMonitor) (t : ℕ) → 1 ≤ times_in m.called t → IsOut m n t → length n.waits + length n.called + 1 ≤ length m.waits + length m.called
length_out m n t h q = rw (q.waits, q.called) (omega (arith, length-without m.called t))
