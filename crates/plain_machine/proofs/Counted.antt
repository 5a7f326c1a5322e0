-- No monitor counts more than its owner's holds, through what entries do.
use Rattle.std.proofs.Common.{◌≡◌, inl, inr, ℕ, ◌+◌, ◌-◌, ◌<◌, ◌≤◌, Bool, true, false, leb, List, [], ◌∷◌}
use Rattle.std.proofs.Common.{length, get_or, set, sum, Option, Some, None, refl, sym, ap, arith, ◌∙◌}
use Rattle.std.proofs.lemmas.List.{get_or-set_same, get_or-set_other, get_or_past}
use Rattle.std.proofs.lemmas.List.Sums.{get_or-le-sum_by}
use Rattle.std.proofs.lemmas.Bool.{cases_eq, cases_lt}
use Rattle.std.proofs.lemmas.Bool.Decides.{nat_tests}
use Rattle.std.proofs.lemmas.Option.{same_Some, cond_some, none-some}
use Rattle.plain_monitor.specs.Limits.{most_holds}
use Rattle.plain_monitor.specs.Monitor.{PlainMonitor, is_thread, owns, enter, exit, wait, resumed, calls, notify, notify_all}
use Rattle.plain_machine.specs.Thread.{ThreadState, holds_of}
use Rattle.plain_machine.specs.Sound.{thread_in, owner_holds, IsCounted, AreKept, unrun}

-- nobody but t owns the monitor, and the count is at most h
pub record IsOwnedBy (m : PlainMonitor) (t h : ℕ) : Type 0 where
  pub free : m.owner ≡ None → m.count ≡ 0
  pub held : (u : ℕ) → m.owner ≡ Some u → (u ≡ t) × (m.count ≤ h)

owner_of : (o : Option ℕ) (t : ℕ) → is_thread o t ≡ true → o ≡ Some t
owner_of None t e = absurd (cc e)
owner_of (Some u) t e = let q : u ≡ t = grind (arith, nat_tests) in rw q refl

owned_some : (n : PlainMonitor) (t h : ℕ) → n.owner ≡ Some t → n.count ≤ h → IsOwnedBy n t h
owned_some n t h e c = record { free = λ f. absurd (cc); held = λ u g. (cc, c) }

owned_none : (n : PlainMonitor) (t h : ℕ) → n.owner ≡ None → n.count ≡ 0 → IsOwnedBy n t h
owned_none n t h e c = record { free = λ f. c; held = λ u g. absurd (cc) }

enter_at : (m n : PlainMonitor) (t h : ℕ) (own : Bool) → owns m t ≡ own → (m.owner ≡ Some t → m.count ≤ h)
    → enter m t ≡ Some n → IsOwnedBy n t (h + 1)
enter_at m n t h true e b s =
    let o = owner_of m.owner t e in
    let c = b o in
    let q = same_Some (record m { count = m.count + 1 }) n (rw e at s) in
    owned_some n t (h + 1) (sym (ap (λ (z : PlainMonitor). z.owner) q) ∙ o) (omega (arith, c, ap (λ (z : PlainMonitor). z.count) q))
enter_at m n t h false e b s =
    let q = cond_some _ (record m { owner = Some t; count = 1 }) n (rw e at s) in
    owned_some n t (h + 1) (sym (ap (λ (z : PlainMonitor). z.owner) q.1)) (omega (arith, ap (λ (z : PlainMonitor). z.count) q.1))

pub owned_enter : (m n : PlainMonitor) (t h : ℕ) → (m.owner ≡ Some t → m.count ≤ h) → enter m t ≡ Some n → IsOwnedBy n t (h + 1)
owned_enter m n t h b s = enter_at m n t h (owns m t) refl b s

exit_at : (m n : PlainMonitor) (t h : ℕ) (own last : Bool) → owns m t ≡ own → leb m.count 1 ≡ last → (m.owner ≡ Some t → m.count ≤ h)
    → exit m t ≡ Some n → IsOwnedBy n t (h - 1)
exit_at m n t h false last e f b s = let q : None ≡ Some n = rw e at s in absurd (none-some n q)
exit_at m n t h true true e f b s =
    let q = same_Some (record m { owner = None; count = 0 }) n (rw (e, f) at s) in
    owned_none n t (h - 1) (sym (ap (λ (z : PlainMonitor). z.owner) q)) (sym (ap (λ (z : PlainMonitor). z.count) q))
exit_at m n t h true false e f b s =
    let o = owner_of m.owner t e in
    let c = b o in
    let q = same_Some (record m { count = m.count - 1 }) n (rw (e, f) at s) in
    owned_some n t (h - 1) (sym (ap (λ (z : PlainMonitor). z.owner) q) ∙ o) (omega (arith, c, ap (λ (z : PlainMonitor). z.count) q))

pub owned_exit : (m n : PlainMonitor) (t h : ℕ) → (m.owner ≡ Some t → m.count ≤ h) → exit m t ≡ Some n → IsOwnedBy n t (h - 1)
owned_exit m n t h b s = exit_at m n t h (owns m t) (leb m.count 1) refl refl b s

-- where t waits, nobody owns the monitor
pub owned_wait : (m n : PlainMonitor) (t h : ℕ) → wait m t ≡ Some n → IsOwnedBy n t h
owned_wait m n t h s =
    let q = cond_some _ (record m { owner = None; count = 0; waits = _ }) n s in
    owned_none n t h (sym (ap (λ (z : PlainMonitor). z.owner) q.1)) (sym (ap (λ (z : PlainMonitor). z.count) q.1))

-- who waits was the owner
pub wait_owner : (m n : PlainMonitor) (t : ℕ) → wait m t ≡ Some n → m.owner ≡ Some t
wait_owner m n t s = owner_of m.owner t (cond_some (owns m t) (record m { owner = None; count = 0; waits = _ }) n s).0

-- who resumes has the count that it had
pub owned_resumed : (m n : PlainMonitor) (t c h : ℕ) → c ≤ h → resumed m t (Some c) ≡ Some n → IsOwnedBy n t h
owned_resumed m n t c h le s =
    let q = cond_some _ (record m { owner = Some t; count = c; called = _ }) n s in
    owned_some n t h (sym (ap (λ (z : PlainMonitor). z.owner) q.1)) (omega (arith, ap (λ (z : PlainMonitor). z.count) q.1))

-- who is called changes nothing of the owner
pub record HasSameOwner (m n : PlainMonitor) : Type 0 where
  pub owner : n.owner ≡ m.owner
  pub count : n.count ≡ m.count

pub owner-calls : (m n : PlainMonitor) (ws : List (ℕ × ℕ)) (woken : Option ℕ) → calls m ws woken ≡ Some n → HasSameOwner m n
owner-calls m n [] None s =
    let q = same_Some m n s in record { owner = sym (ap (λ (z : PlainMonitor). z.owner) q); count = sym (ap (λ (z : PlainMonitor). z.count) q) }
owner-calls m n [] (Some u) s = absurd (none-some n s)
owner-calls m n (p ∷ ps) None s = absurd (none-some n s)
owner-calls m n (p ∷ ps) (Some u) s =
    let q = cond_some _ (record m { waits = ps; called = _ }) n s in
    record { owner = sym (ap (λ (z : PlainMonitor). z.owner) q.1); count = sym (ap (λ (z : PlainMonitor). z.count) q.1) }

owned_same : (m n : PlainMonitor) (t h : ℕ) → owns m t ≡ true → (m.owner ≡ Some t → m.count ≤ h) → HasSameOwner m n → IsOwnedBy n t h
owned_same m n t h e b q =
    let o = owner_of m.owner t e in let c = b o in owned_some n t h (q.owner ∙ o) (omega (arith, c, q.count))

notify_at : (m n : PlainMonitor) (t h : ℕ) (woken : Option ℕ) (own : Bool) → owns m t ≡ own → (m.owner ≡ Some t → m.count ≤ h)
    → notify m t woken ≡ Some n → IsOwnedBy n t h
notify_at m n t h woken true e b s = owned_same m n t h e b (owner-calls m n m.waits woken (rw e at s))
notify_at m n t h woken false e b s = let q : None ≡ Some n = rw e at s in absurd (none-some n q)

pub owned_notify : (m n : PlainMonitor) (t h : ℕ) (woken : Option ℕ) → (m.owner ≡ Some t → m.count ≤ h) → notify m t woken ≡ Some n → IsOwnedBy n t h
owned_notify m n t h woken b s = notify_at m n t h woken (owns m t) refl b s

all_at : (m n : PlainMonitor) (t h k : ℕ) (own : Bool) → owns m t ≡ own → (m.owner ≡ Some t → m.count ≤ h)
    → notify_all m t k ≡ Some n → IsOwnedBy n t h
all_at m n t h k true e b s =
    let q = cond_some _ (record m { waits = []; called = _ }) n s in
    owned_same m n t h e b (record { owner = sym (ap (λ (z : PlainMonitor). z.owner) q.1); count = sym (ap (λ (z : PlainMonitor). z.count) q.1) })
all_at m n t h k false e b s = let q : None ≡ Some n = rw e at s in absurd (none-some n q)

pub owned_notify_all : (m n : PlainMonitor) (t h k : ℕ) → (m.owner ≡ Some t → m.count ≤ h) → notify_all m t k ≡ Some n → IsOwnedBy n t h
owned_notify_all m n t h k b s = all_at m n t h k (owns m t) refl b s

-- threads whose holds of object k are the same
same_holds : (threads : List ThreadState) (t k : ℕ) (s : ThreadState) (w : Option ℕ) → t < length threads
    → holds_of s k ≡ holds_of (thread_in threads t) k → owner_holds (set threads t s) k w ≡ owner_holds threads k w
same_holds threads t k s None lt e = refl
same_holds threads t k s (Some u) lt e =
    elim (cases_eq u t) [
      | inl q ↦ rw (q, get_or-set_same threads t s (unrun 0 0 0) lt) e
      | inr q ↦ ap (λ z. holds_of z k) (get_or-set_other threads t u s (unrun 0 0 0) q)
    ]

-- a monitor counts no more beside a thread whose holds of the object are the same
pub counted_same : (threads : List ThreadState) (t o : ℕ) (s : ThreadState) (m : PlainMonitor) → t < length threads
    → holds_of s o ≡ holds_of (thread_in threads t) o → IsCounted threads o m → IsCounted (set threads t s) o m
counted_same threads t o s m lt e h = rw (same_holds threads t o s m.owner lt e) h

owned_holds : (threads : List ThreadState) (t o : ℕ) (s : ThreadState) (n : PlainMonitor) (w : Option ℕ) → n.owner ≡ w → t < length threads
    → IsOwnedBy n t (holds_of s o) → n.count ≤ owner_holds (set threads t s) o w
owned_holds threads t o s n None e lt b = omega (arith, b.free e)
owned_holds threads t o s n (Some u) e lt b =
    let p = b.held u e in rw (p.0, get_or-set_same threads t s (unrun 0 0 0) lt) p.1

-- nor beside the thread that took a step with it
pub counted_owned : (threads : List ThreadState) (t o : ℕ) (s : ThreadState) (n : PlainMonitor) → t < length threads
    → IsOwnedBy n t (holds_of s o) → IsCounted (set threads t s) o n
counted_owned threads t o s n lt b = owned_holds threads t o s n n.owner refl lt b

-- the count of a monitor that t owns
pub counted_owner : (threads : List ThreadState) (t o : ℕ) (m : PlainMonitor) → IsCounted threads o m → m.owner ≡ Some t
    → m.count ≤ holds_of (thread_in threads t) o
counted_owner threads t o m h e = rw e at h

hold-le-sum : (xs : List ℕ) (o : ℕ) → get_or xs o 0 ≤ sum xs
hold-le-sum xs o =
    elim (cases_lt o (length xs)) [
      | inl lt ↦ get_or-le-sum_by (λ x. x) xs o 0 lt
      | inr ge ↦ omega (arith, get_or_past xs o 0 ge)
    ]

low_holds : (n : ℕ) (threads : List ThreadState) (o : ℕ) (w : Option ℕ) → AreKept n threads → owner_holds threads o w ≤ most_holds
low_holds n threads o None k = omega arith
low_holds n threads o (Some t) k =
    elim (cases_lt t (length threads)) [
      | inl lt ↦ let few = (k t (unrun 0 0 0) lt).few in omega (arith, few, hold-le-sum (thread_in threads t).holds o)
      | inr ge ↦ rw (get_or_past threads t (unrun 0 0 0) ge) (omega arith)
    ]

-- no monitor counts more holds than a thread may have
pub count_low : (n : ℕ) (threads : List ThreadState) (o : ℕ) (m : PlainMonitor) → AreKept n threads → IsCounted threads o m → m.count ≤ most_holds
count_low n threads o m k h = omega (arith, h, low_holds n threads o m.owner k)
