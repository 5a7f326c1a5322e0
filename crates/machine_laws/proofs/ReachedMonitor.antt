-- What each step of a thread makes of a monitor.
use Rattle.std.proofs.Common.{◌≡◌, ◌≢◌, ◌⊎◌, inl, inr, ℕ, ◌+◌, ◌-◌, ◌<◌, ◌≤◌, Bool, true, false, not, ◌&&◌, ◌==◌, List, [], ◌∷◌, ◌++◌, length, nat_le}
use Rattle.std.proofs.Common.{if◌then◌else◌, Option, Some, None, refl, sym, ap, subst, arith, eqb-true, ne_eqb, eq-eqb, leb-true, leb-false}
use Rattle.std.specs.List.{AllByRecursion}
use Rattle.std.proofs.lemmas.Bool.{cases_eq, false≢true, and_parts, not-true}
use Rattle.std.proofs.lemmas.Option.{none-some, same_Some, cond_some}
use Rattle.plain_monitor.specs.Monitor.{PlainMonitor, free_monitor, is_thread, owns, count_of, is_listed, is_outside}
use Rattle.plain_monitor.specs.Monitor.{without, enter, exit, wait, resume, calls, notify, notify_all}
use Rattle.plain_monitor.specs.Listed.{tally, times_in, counts_in}
use Rattle.machine_laws.specs.ReachedMonitor.{for_owner, times_listed, standing, IsPlaceOf, IsMonitorOf}
use Rattle.plain_monitor.proofs.Lists.{all_append, all_push}
use Rattle.plain_machine.proofs.Tallies.{tally_joined, tally_unlisted, tally_without, tally_without_other}
use Rattle.plain_machine.proofs.Tallies.{all_without, all_counted, counted_times, counted_once}

-- how a step changes what the monitor has for the thread that makes it: its holds, and how often it is listed
pub record Shift : Type 0 where
  pub gains : ℕ
  pub loses : ℕ
  pub comes : ℕ
  pub leaves : ℕ

abbrev pub stays : Shift
stays = record { gains = 0; loses = 0; comes = 0; leaves = 0 }

abbrev pub one_more : Shift
one_more = record { gains = 1; loses = 0; comes = 0; leaves = 0 }

abbrev pub one_less : Shift
one_less = record { gains = 0; loses = 1; comes = 0; leaves = 0 }

abbrev pub is_put_in : Shift
is_put_in = record { gains = 0; loses = 0; comes = 1; leaves = 0 }

abbrev pub is_taken_out : Shift
is_taken_out = record { gains = 0; loses = 0; comes = 0; leaves = 1 }

-- the monitor after has the same for thread u
pub record IsAlike (m next : PlainMonitor) (u : ℕ) : Type 0 where
  pub standing : standing next u ≡ standing m u
  pub listed : times_listed next u ≡ times_listed m u

-- the monitor after has this for thread t
pub record IsShifted (change : Shift) (m next : PlainMonitor) (t : ℕ) : Type 0 where
  pub standing : standing next t + change.loses ≡ standing m t + change.gains
  pub listed : times_listed next t + change.leaves ≡ times_listed m t + change.comes

-- a step of thread t, one of n
pub record IsMonitorStep (n t : ℕ) (change : Shift) (m next : PlainMonitor) : Type 0 where
  pub monitor : IsMonitorOf n next
  pub own : IsShifted change m next t
  pub others : (u : ℕ) → u ≢ t → IsAlike m next u

-- the monitor of these parts
abbrev monitor_with : Option ℕ → ℕ → List (ℕ × ℕ) → List (ℕ × ℕ) → PlainMonitor
monitor_with o c w k = record { owner = o; count = c; waits = w; called = k }

-- the number for the owner, and for another
owner_own : (t n : ℕ) → for_owner (Some t) n t ≡ n
owner_own t n = rw (eq-eqb t t refl)

owner_other : (t n u : ℕ) → u ≢ t → for_owner (Some t) n u ≡ 0
owner_other t n u other = rw (ne_eqb t u (λ q. other (sym q)))

-- who owns the monitor is its owner
owner_is : (o : Option ℕ) (t : ℕ) → is_thread o t ≡ true → o ≡ Some t
owner_is None t h = absurd (false≢true h)
owner_is (Some u) t h = ap Some (eqb-true u t h)

-- a monitor before the first step
pub free_is : (n : ℕ) → IsMonitorOf n free_monitor
free_is n = record { owner = refl; waits = tt; called = tt; once = λ t. omega arith }

-- a step that changes nothing for any thread
pub rests : (n t : ℕ) (m next : PlainMonitor) → IsMonitorOf n next → ((u : ℕ) → IsAlike m next u) → IsMonitorStep n t stays m next
rests n t m next h alike = record {
  monitor = h;
  own = let k = alike t in record { standing = omega (arith, k.standing); listed = omega (arith, k.listed) };
  others = λ u other. alike u;
}

-- a thread that isn't listed takes the free monitor
entered_free : (n t c : ℕ) (w k : List (ℕ × ℕ)) → t < n → IsMonitorOf n (monitor_with None c w k) → is_outside (monitor_with None c w k) t ≡ true
    → IsMonitorStep n t one_more (monitor_with None c w k) (monitor_with (Some t) 1 w k)
entered_free n t c w k l h out = record {
  monitor = record { owner = (l, omega arith); waits = h.waits; called = h.called; once = λ u. go u (cases_eq u t) };
  own = record { standing = omega (arith, owner_own t 1); listed = omega arith };
  others = λ u other. record { standing = let z = owner_other t 1 u other in omega (arith, z); listed = refl };
}
  where
    parts : (not (is_listed w t) ≡ true) × (not (is_listed k t) ≡ true)
    parts = and_parts (not (is_listed w t)) (not (is_listed k t)) out

    go : (u : ℕ) → (u ≡ t) ⊎ (u ≡ t → ⊥) → for_owner (Some t) 1 u + times_in w u + times_in k u ≤ 1
    go u (inl same) =
        let a : times_in w t ≡ 0 = tally_unlisted (λ p. 1) w t (not-true _ parts.0) in
        let b : times_in k t ≡ 0 = tally_unlisted (λ p. 1) k t (not-true _ parts.1) in
        rw (same, a, b) (omega (arith, owner_own t 1))
    go u (inr other) = let z = owner_other t 1 u other in let o = h.once u in omega (arith, z, o)

-- the owner with another count, above 0
owner_counts : (n t c d : ℕ) (change : Shift) (w k : List (ℕ × ℕ)) → 1 ≤ d → d + change.loses ≡ c + change.gains → change.leaves ≡ change.comes
    → IsMonitorOf n (monitor_with (Some t) c w k) → IsMonitorStep n t change (monitor_with (Some t) c w k) (monitor_with (Some t) d w k)
owner_counts n t c d change w k some counts lists h = record {
  monitor = record { owner = (h.owner.0, some); waits = h.waits; called = h.called; once = h.once };
  own = record { standing = omega (arith, owner_own t c, owner_own t d, counts); listed = omega (arith, lists) };
  others = λ u other. record { standing = let y = owner_other t c u other in let z = owner_other t d u other in omega (arith, y, z); listed = refl };
}

entered_parts : (n t : ℕ) (o : Option ℕ) (c : ℕ) (w k : List (ℕ × ℕ)) (next : PlainMonitor) → t < n → IsMonitorOf n (monitor_with o c w k)
    → enter (monitor_with o c w k) t ≡ Some next → IsMonitorStep n t one_more (monitor_with o c w k) next
entered_parts n t None c w k next l h e =
    let r = cond_some (is_outside (monitor_with None c w k) t) (monitor_with (Some t) 1 w k) next e in
    subst (IsMonitorStep n t one_more (monitor_with None c w k)) r.1 (entered_free n t c w k l h r.0)
entered_parts n t (Some u) c w k next l h e = go (u == t) refl
  where
    go : (b : Bool) → (u == t) ≡ b → IsMonitorStep n t one_more (monitor_with (Some u) c w k) next
    go true at =
        let same : u ≡ t = eqb-true u t at in
        let is : monitor_with (Some u) (c + 1) w k ≡ next = same_Some _ _ (rw at at e) in
        subst (IsMonitorStep n t one_more (monitor_with (Some u) c w k)) is
        (subst (λ (v : ℕ). IsMonitorStep n v one_more (monitor_with (Some u) c w k) (monitor_with (Some u) (c + 1) w k)) same
        (owner_counts n u c (c + 1) one_more w k (omega arith) (omega arith) refl h))
    go false at = absurd (none-some next (rw at at e))

-- an enter that the monitor takes
pub entered : (n t : ℕ) (m next : PlainMonitor) → t < n → IsMonitorOf n m → enter m t ≡ Some next → IsMonitorStep n t one_more m next
entered n t m next l h e = entered_parts n t m.owner m.count m.waits m.called next l h e

-- what a step of the owner makes of its monitor
by_owner : (n t : ℕ) (change : Shift) (m next : PlainMonitor) (f : Option ℕ → PlainMonitor) → owns m t ≡ true → f m.owner ≡ next → IsMonitorOf n m
    → (IsMonitorOf n (monitor_with (Some t) m.count m.waits m.called) → IsMonitorStep n t change (monitor_with (Some t) m.count m.waits m.called) (f (Some t)))
    → IsMonitorStep n t change m next
by_owner n t change m next f owned is h step =
    let e : m.owner ≡ Some t = owner_is m.owner t owned in
    let at_some : IsMonitorStep n t change (monitor_with (Some t) m.count m.waits m.called) (f (Some t)) =
    step (subst (λ (o : Option ℕ). IsMonitorOf n (monitor_with o m.count m.waits m.called)) e h) in
    let at_owner : IsMonitorStep n t change m (f m.owner) =
    subst (λ (o : Option ℕ). IsMonitorStep n t change (monitor_with o m.count m.waits m.called) (f o)) (sym e) at_some in
    subst (IsMonitorStep n t change m) is at_owner

-- the owner lets go: with its last exit, and as one that waits
exited_last : (n t c : ℕ) (w k : List (ℕ × ℕ)) → c ≡ 1 → IsMonitorOf n (monitor_with (Some t) c w k)
    → IsMonitorStep n t one_less (monitor_with (Some t) c w k) (monitor_with None 0 w k)
exited_last n t c w k one h = record {
  monitor = record { owner = refl; waits = h.waits; called = h.called; once = λ u. let o = h.once u in omega (arith, o) };
  own = record { standing = omega (arith, owner_own t c, one); listed = omega arith };
  others = λ u other. record { standing = let z = owner_other t c u other in omega (arith, z); listed = refl };
}

exited_owner : (n t c : ℕ) (w k : List (ℕ × ℕ)) → IsMonitorOf n (monitor_with (Some t) c w k)
    → IsMonitorStep n t one_less (monitor_with (Some t) c w k) (if nat_le c 1 then monitor_with None 0 w k else monitor_with (Some t) (c - 1) w k)
exited_owner n t c w k h = go (nat_le c 1) refl
  where
    some : 1 ≤ c
    some = h.owner.1

    go : (b : Bool) → nat_le c 1 ≡ b
        → IsMonitorStep n t one_less (monitor_with (Some t) c w k) (if b then monitor_with None 0 w k else monitor_with (Some t) (c - 1) w k)
    go true e = exited_last n t c w k (omega (arith, some, leb-true c 1 e)) h
    go false e = let more = leb-false c 1 e in owner_counts n t c (c - 1) one_less w k (omega (arith, more)) (omega (arith, more)) refl h

-- an exit that the monitor takes
pub exited : (n t : ℕ) (m next : PlainMonitor) → IsMonitorOf n m → exit m t ≡ Some next → IsMonitorStep n t one_less m next
exited n t m next h e =
    let left : Option ℕ → PlainMonitor =
    λ o. if nat_le m.count 1 then monitor_with None 0 m.waits m.called else monitor_with o (m.count - 1) m.waits m.called in
    let r = cond_some (owns m t) (left m.owner) next e in
    by_owner n t one_less m next left r.0 r.1 h (exited_owner n t m.count m.waits m.called)

waited_owner : (n t c : ℕ) (w k : List (ℕ × ℕ)) → IsMonitorOf n (monitor_with (Some t) c w k)
    → IsMonitorStep n t is_put_in (monitor_with (Some t) c w k) (monitor_with None 0 (w ++ (t, c) ∷ []) k)
waited_owner n t c w k h = record {
  monitor = record {
    owner = refl;
    waits = all_push (IsPlaceOf n) w (t, c) h.waits h.owner;
    called = h.called;
    once = λ u. let o = h.once u in omega (arith, o, times u);
  };
  own = record { standing = omega (arith, counts t); listed = omega (arith, times t, owner_own t 1) };
  others = λ u other. record { standing = omega (arith, counts u); listed = let z = owner_other t 1 u other in omega (arith, times u, z) };
}
  where
    times : (u : ℕ) → times_in (w ++ (t, c) ∷ []) u ≡ times_in w u + for_owner (Some t) 1 u
    times u = omega (arith, tally_joined (λ p. 1) w ((t, c) ∷ []) u)

    counts : (u : ℕ) → counts_in (w ++ (t, c) ∷ []) u ≡ counts_in w u + for_owner (Some t) c u
    counts u = omega (arith, tally_joined (λ p. p.1) w ((t, c) ∷ []) u)

-- a wait that the monitor takes
pub waited : (n t : ℕ) (m next : PlainMonitor) → IsMonitorOf n m → wait m t ≡ Some next → IsMonitorStep n t is_put_in m next
waited n t m next h e =
    let left : Option ℕ → PlainMonitor = λ o. monitor_with None 0 (m.waits ++ (t, m.count) ∷ []) m.called in
    let r = cond_some (owns m t) (left m.owner) next e in
    by_owner n t is_put_in m next left r.0 r.1 h (waited_owner n t m.count m.waits m.called)

-- a thread that was called takes the free monitor
resumed_free : (n t c d : ℕ) (w k : List (ℕ × ℕ)) → count_of k t ≡ Some d → IsMonitorOf n (monitor_with None c w k)
    → IsMonitorStep n t is_taken_out (monitor_with None c w k) (monitor_with (Some t) d w (without k t))
resumed_free n t c d w k e h = record {
  monitor = record {
    owner = all_counted (IsPlaceOf n) k t d h.called e;
    waits = h.waits;
    called = all_without (IsPlaceOf n) k t h.called;
    once = λ u. go u (cases_eq u t);
  };
  own = record { standing = omega (arith, owner_own t d, counts, none (λ p. p.1)); listed = omega (arith, none (λ p. 1), here, once_own) };
  others = λ u other. record {
    standing = let y = owner_other t d u other in let z = rest (λ p. p.1) u other in omega (arith, y, z);
    listed = let z = rest (λ p. 1) u other in omega (arith, z);
  };
}
  where
    here : 1 ≤ times_in k t
    here = counted_times k t d e

    once_own : times_in w t + times_in k t ≤ 1
    once_own = let o = h.once t in omega (arith, o)

    counts : counts_in k t ≡ d
    counts = counted_once k t d e (omega (arith, once_own))

    none : (f : ℕ × ℕ → ℕ) → tally f (without k t) t ≡ 0
    none f = tally_without f k t

    rest : (f : ℕ × ℕ → ℕ) (u : ℕ) → u ≢ t → tally f (without k t) u ≡ tally f k u
    rest f u other = tally_without_other f k t u other

    go : (u : ℕ) → (u ≡ t) ⊎ (u ≡ t → ⊥) → for_owner (Some t) 1 u + times_in w u + times_in (without k t) u ≤ 1
    go u (inl same) = rw same (omega (arith, owner_own t 1, none (λ p. 1), here, once_own))
    go u (inr other) = let y = owner_other t 1 u other in let z = rest (λ p. 1) u other in let o = h.once u in omega (arith, y, z, o)

resumed_parts : (n t : ℕ) (o : Option ℕ) (c : ℕ) (w k : List (ℕ × ℕ)) (d : Option ℕ) (next : PlainMonitor)
    → count_of k t ≡ d → IsMonitorOf n (monitor_with o c w k)
    → resume (monitor_with o c w k) t ≡ Some next → IsMonitorStep n t is_taken_out (monitor_with o c w k) next
resumed_parts n t o c w k None next at h e = absurd (none-some next (rw at at e))
resumed_parts n t None c w k (Some d) next at h e =
    let is : monitor_with (Some t) d w (without k t) ≡ next = same_Some _ _ (rw at at e) in
    subst (IsMonitorStep n t is_taken_out (monitor_with None c w k)) is (resumed_free n t c d w k at h)
resumed_parts n t (Some u) c w k (Some d) next at h e = absurd (none-some next (rw at at e))

-- a resume that the monitor takes
pub has_resumed : (n t : ℕ) (m next : PlainMonitor) → IsMonitorOf n m → resume m t ≡ Some next → IsMonitorStep n t is_taken_out m next
has_resumed n t m next h e = resumed_parts n t m.owner m.count m.waits m.called (count_of m.called t) next refl h e

-- places go from those who wait to those who were called
woken_parts : (n t : ℕ) (o : Option ℕ) (c : ℕ) (v w k j : List (ℕ × ℕ)) → w ≡ v ++ j → IsMonitorOf n (monitor_with o c w k)
    → AllByRecursion (IsPlaceOf n) v → AllByRecursion (IsPlaceOf n) j → IsMonitorStep n t stays (monitor_with o c w k) (monitor_with o c j (k ++ v))
woken_parts n t o c v w k j e h first later =
    rests n t (monitor_with o c w k) (monitor_with o c j (k ++ v))
    (record {
      owner = h.owner;
      waits = later;
      called = all_append (IsPlaceOf n) k v h.called first;
      once = λ u. let q = h.once u in omega (arith, q, moved (λ p. 1) u);
    })
    (λ u. record { standing = omega (arith, moved (λ p. p.1) u); listed = omega (arith, moved (λ p. 1) u) })
  where
    moved : (f : ℕ × ℕ → ℕ) (u : ℕ) → tally f j u + tally f (k ++ v) u ≡ tally f w u + tally f k u
    moved f u = omega (arith, tally_joined f k v u, tally_joined f v j u, ap (λ (x : List (ℕ × ℕ)). tally f x u) e)

notified_parts : (n t : ℕ) (o : Option ℕ) (c : ℕ) (w k : List (ℕ × ℕ)) (woken : Option ℕ) (next : PlainMonitor) → IsMonitorOf n (monitor_with o c w k)
    → calls (monitor_with o c w k) w woken ≡ Some next → IsMonitorStep n t stays (monitor_with o c w k) next
notified_parts n t o c [] k None next h e =
    subst (IsMonitorStep n t stays (monitor_with o c [] k)) (same_Some _ _ e)
    (rests n t (monitor_with o c [] k) (monitor_with o c [] k) h (λ u. record { standing = refl; listed = refl }))
notified_parts n t o c [] k (Some u) next h e = absurd (none-some next e)
notified_parts n t o c (p ∷ ps) k None next h e = absurd (none-some next e)
notified_parts n t o c (p ∷ ps) k (Some u) next h e =
    let r = cond_some (p.0 == u) (monitor_with o c ps (k ++ p ∷ [])) next e in
    subst (IsMonitorStep n t stays (monitor_with o c (p ∷ ps) k)) r.1 (woken_parts n t o c (p ∷ []) (p ∷ ps) k ps refl h (h.waits.0, tt) h.waits.1)

-- a notify that the monitor takes, of one thread and of all
pub notified : (n t : ℕ) (woken : Option ℕ) (m next : PlainMonitor) → IsMonitorOf n m → notify m t woken ≡ Some next → IsMonitorStep n t stays m next
notified n t woken m next h e = go (owns m t) refl
  where
    go : (b : Bool) → owns m t ≡ b → IsMonitorStep n t stays m next
    go true at = notified_parts n t m.owner m.count m.waits m.called woken next h (rw at at e)
    go false at = absurd (none-some next (rw at at e))

pub all_notified : (n t many : ℕ) (m next : PlainMonitor) → IsMonitorOf n m → notify_all m t many ≡ Some next → IsMonitorStep n t stays m next
all_notified n t many m next h e =
    let r = cond_some (owns m t && (length m.waits == many)) (monitor_with m.owner m.count [] (m.called ++ m.waits)) next e in
    subst (IsMonitorStep n t stays m) r.1 (woken_parts n t m.owner m.count m.waits m.waits m.called [] (append_nil m.waits) h h.waits tt)
  where
    append_nil : (ps : List (ℕ × ℕ)) → ps ≡ ps ++ []
    append_nil [] = refl
    append_nil (p ∷ ps) = ap (λ (xs : List (ℕ × ℕ)). p ∷ xs) (append_nil ps)
