-- A thread is blocked by exactly the one that it waits for.
use Rattle.std.proofs.Common.{◌≡◌, ◌≢◌, ℕ, ◌==◌, if◌then◌else◌, eqb-true, eq-eqb, Bool, true, false, length}
use Rattle.std.proofs.Common.{slice_get, ◌<◌, Option, Some, None, option_and_then, refl, sym, ap, ◌∙◌, subst}
use Rattle.std.proofs.lemmas.Option.{slice_get_within}
use Rattle.plain_monitor.specs.declared.entry.Entry.{Entry}
use Rattle.plain_monitor.specs.declared.entry.Entry.TheVariants.{Enter, Resume}
use Rattle.plain_monitor.specs.declared.entry.Path.TheVariants.{StackFirst}
use Rattle.plain_monitor.specs.Monitor.{is_thread, is_listed}
use Rattle.plain_machine.specs.declared.monitor_call.MonitorCall.TheVariants as call
use Rattle.plain_machine.specs.declared.monitor_call.NextEntry.{NextEntry}
use Rattle.plain_machine.specs.declared.monitor_call.NextEntry.TheVariants.{Calls, Resumes}
use Rattle.plain_machine.specs.declared.offer.Offer.TheVariants.{Waiting}
use Rattle.plain_machine.specs.Thread.{ThreadState}
use Rattle.plain_machine.specs.Asking.{ask}
use Rattle.plain_machine.specs.Machine.{PlainMachine, monitor_at, object_at, other_owner}
use Rattle.plain_machine.specs.Offering.{offered, asked_offer, unless_owned, hash_offer}
use Rattle.wait_report.specs.Waiting.{wish_of, WaitsFor}
use Rattle.wait_report.specs.inner.Walk.{blocker}

-- another owner than u, where there is one
record IsOther (owner : Option ℕ) (u w : ℕ) : Type 0 where
  owns : owner ≡ Some w
  other : w ≢ u

other_in : (owner : Option ℕ) (u w : ℕ) → (if is_thread owner u then None else owner) ≡ Some w → IsOther owner u w
other_in None u w e = absurd (cc e)
other_in (Some v) u w e = by_test (v == u) refl e where
  by_test : (b : Bool) → (v == u) ≡ b → (if b then None else Some v) ≡ Some w → IsOther (Some v) u w
  by_test true t e = absurd (cc e)
  by_test false t e = let same : v ≡ w = cc e in
      record { owns = e; other = λ (h : w ≡ u). absurd (let own : (v == u) ≡ true = eq-eqb v u (same ∙ h) in cc (own, t)) }

other_given : (owner : Option ℕ) (u w : ℕ) → owner ≡ Some w → w ≢ u → (if is_thread owner u then None else owner) ≡ Some w
other_given None u w e d = absurd (cc e)
other_given (Some v) u w e d = by_test (v == u) refl where
  by_test : (b : Bool) → (v == u) ≡ b → (if b then None else Some v) ≡ Some w
  by_test true t = let same : v ≡ w = cc e in absurd (d (sym same ∙ eqb-true v u t))
  by_test false t = e

-- what an offer to a thread says of its blocker, which the thread asks for where it is this one
record IsBlock (m : PlainMachine) (u : ℕ) (wish : Option ℕ) (b : ℕ × ℕ) : Type 0 where
  wish_is : wish ≡ Some b.0
  other : other_owner (monitor_at m b.0) u ≡ Some b.1

unless_block : (m : PlainMachine) (u o : ℕ) (owner : Option ℕ) (e : Entry) (b : ℕ × ℕ) → other_owner (monitor_at m o) u ≡ owner
    → blocker (unless_owned o owner e) ≡ Some b → IsBlock m u (Some o) b
unless_block m u o None e b at h = absurd (cc h)
unless_block m u o (Some w) e b at h =
    let same : (o, w) ≡ b = cc h in
    let P : ℕ × ℕ → Type 0 = λ c. IsBlock m u (Some o) c in
    subst P same (record { wish_is = refl; other = at })

no_hash_block : (o : ℕ) (hash : Option ℕ) → blocker (hash_offer o hash) ≡ None
no_hash_block o None = refl
no_hash_block o (Some h) = refl

asked_block : (m : PlainMachine) (u : ℕ) (a : Option NextEntry) (b : ℕ × ℕ) → blocker (asked_offer m u a) ≡ Some b → IsBlock m u (wish_of m u a) b
asked_block m u (Some (Calls (call.Enter o))) b h = unless_block m u o (other_owner (monitor_at m o) u) (Enter o StackFirst) b refl h
asked_block m u (Some (Calls (call.Hash x o))) b h = absurd (let none : None ≡ Some b = sym (no_hash_block o (object_at m o).hash) ∙ h in cc none)
asked_block m u (Some (Resumes o)) b h = by_test (is_listed (monitor_at m o).waits u) h where
  by_test : (w : Bool) → blocker (if w then Waiting o else unless_owned o (other_owner (monitor_at m o) u) (Resume o)) ≡ Some b
      → IsBlock m u (if w then None else Some o) b
  by_test true h = absurd (cc h)
  by_test false h = unless_block m u o (other_owner (monitor_at m o) u) (Resume o) b refl h
asked_block m u _ b h = absurd (cc h)

-- whoever blocks a thread is waited for
pub blocked_waits : (m : PlainMachine) (u : ℕ) (b : ℕ × ℕ) → blocker (offered m u) ≡ Some b → WaitsFor m u b.1 b.0
blocked_waits m u b h =
    let at = asked_block m u (option_and_then ask (slice_get m.threads u)) b h in
    let other = other_in (monitor_at m b.0).owner u b.1 at.other in
    record { asks = at.wish_is; owner = other.owns; other = other.other }

unless_given : (o w : ℕ) (owner : Option ℕ) (e : Entry) → owner ≡ Some w → blocker (unless_owned o owner e) ≡ Some (o, w)
unless_given o w None e h = absurd (cc h)
unless_given o w (Some v) e h = let same : v ≡ w = cc h in ap (λ (x : ℕ). Some (o, x)) same

asked_given : (m : PlainMachine) (u w o : ℕ) (a : Option NextEntry) → wish_of m u a ≡ Some o
    → other_owner (monitor_at m o) u ≡ Some w → blocker (asked_offer m u a) ≡ Some (o, w)
asked_given m u w o (Some (Calls (call.Enter k))) e h =
    let same : o ≡ k = cc e in
    let P : ℕ → Type 0 = λ x. blocker (unless_owned x (other_owner (monitor_at m x) u) (Enter x StackFirst)) ≡ Some (o, w) in
    subst P same (unless_given o w (other_owner (monitor_at m o) u) (Enter o StackFirst) h)
asked_given m u w o (Some (Resumes k)) e h = by_test (is_listed (monitor_at m k).waits u) e where
  by_test : (l : Bool) → (if l then None else Some k) ≡ Some o
      → blocker (if l then Waiting k else unless_owned k (other_owner (monitor_at m k) u) (Resume k)) ≡ Some (o, w)
  by_test true e = absurd (cc e)
  by_test false e =
      let same : o ≡ k = cc e in
      let P : ℕ → Type 0 = λ x. blocker (unless_owned x (other_owner (monitor_at m x) u) (Resume x)) ≡ Some (o, w) in
      subst P same (unless_given o w (other_owner (monitor_at m o) u) (Resume o) h)
asked_given m u w o _ e h = absurd (cc e)

-- and whoever is waited for blocks the thread
pub waiting_blocks : (m : PlainMachine) (u w o : ℕ) → WaitsFor m u w o → blocker (offered m u) ≡ Some (o, w)
waiting_blocks m u w o h =
    asked_given m u w o (option_and_then ask (slice_get m.threads u)) h.asks (other_given (monitor_at m o).owner u w h.owner h.other)

-- a thread that waits is one of the machine's
pub waiting_within : (m : PlainMachine) (u w o : ℕ) → WaitsFor m u w o → u < length m.threads
waiting_within m u w o h = by_thread (slice_get m.threads u) refl h.asks where
  by_thread : (s : Option ThreadState) → slice_get m.threads u ≡ s → wish_of m u (option_and_then ask s) ≡ Some o → u < length m.threads
  by_thread None at e = absurd (cc e)
  by_thread (Some s) at e = slice_get_within m.threads u s at
