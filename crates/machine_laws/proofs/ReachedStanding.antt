-- A thread of a reached machine beside an object, and what the object takes from it.
use Rattle.std.proofs.Common.{◌≡◌, ℕ, ◌<◌, ◌≤◌, ◌^◌, Bool, true, false, ◌&&◌, nat_le, nat_lt, if◌then◌else◌, List, []}
use Rattle.std.proofs.Common.{◌∷◌, length, slice_get, Option, Some, None, is_some, refl, ap, ◌∙◌, arith, eq-eqb}
use Rattle.std.proofs.lemmas.Bool.{false≢true, and_from}
use Rattle.std.proofs.lemmas.Bool.Decides.{Decides-int_eq, nat_tests}
use Rattle.std.proofs.lemmas.Option.{slice_get-get_or}
use Rattle.plain_monitor.specs.declared.entry.Value.{Value}
use Rattle.plain_monitor.specs.declared.entry.Value.TheVariants.{Nil, Int, Ref}
use Rattle.plain_monitor.specs.declared.entry.Entry.{Entry}
use Rattle.plain_monitor.specs.declared.entry.Entry.TheVariants.{Enter, Exit, Get, Put, Wait, Resume, Notify, NotifyAll, Hash}
use Rattle.plain_monitor.specs.Monitor.{PlainMonitor, owns, count_of, is_listed, enter, exit, wait, resume, calls, notify, notify_all}
use Rattle.plain_monitor.specs.Objects.{PlainObject, new_object, same_value, has_value, hashed, with_monitor, with_hash, take_at, take_named}
use Rattle.object_program.specs.Program.{slots_of}
use Rattle.plain_machine.specs.Thread.{ThreadState, holds_of}
use Rattle.plain_machine.specs.Machine.{PlainMachine, object_at, monitor_at, slot_at, other_owner}
use Rattle.plain_machine.specs.Offering.{oldest}
use Rattle.plain_monitor.specs.Listed.{times_in, counts_in}
use Rattle.machine_laws.specs.ReachedMonitor.{times_listed, standing, waiting_on, IsMonitorOf, StandsAt}
use Rattle.plain_machine.specs.Values.{IsObject}
use Rattle.machine_laws.specs.Reached.{HasSlots, IsHash, IsReached}
use Rattle.plain_machine.proofs.Tallies.{tally_none, unlisted, tally_unlisted, times_counted}
use Rattle.machine_laws.proofs.ReachedFrame.{IsMaker}

-- an object that is there
object_there : (m : PlainMachine) (o : ℕ) → IsReached m → IsObject m.program o → slice_get m.objects o ≡ Some (object_at m o)
object_there m o h l = slice_get-get_or m.objects o (new_object 0) (omega (arith, h.object_count, l))

-- a thread beside it
pub record IsBeside (m : PlainMachine) (t o : ℕ) (s : ThreadState) : Type 0 where
  pub there : slice_get m.objects o ≡ Some (object_at m o)
  pub stands : StandsAt o t (monitor_at m o) s
  pub monitor : IsMonitorOf (length m.threads) (monitor_at m o)
  pub slots : HasSlots m.program o (object_at m o)

pub beside : (m : PlainMachine) (t o : ℕ) (s : ThreadState) → IsMaker m t s → IsObject m.program o → IsBeside m t o s
beside m t o s h l =
    let there = object_there m o h.reached l in
    record {
      there = there;
      stands = h.reached.standing o (object_at m o) there t s h.at;
      monitor = h.reached.monitors o (object_at m o) there;
      slots = h.reached.slots o (object_at m o) there;
    }

-- a thread that isn't listed and has a count is the owner
owner_by_count : (m : PlainMonitor) (t : ℕ) → times_listed m t ≡ 0 → 1 ≤ standing m t → owns m t ≡ true
owner_by_count m t none some = go (owns m t) refl
  where
    waits : counts_in m.waits t ≡ 0
    waits = tally_none (λ p. p.1) m.waits t (omega (arith, none))

    called : counts_in m.called t ≡ 0
    called = tally_none (λ p. p.1) m.called t (omega (arith, none))

    go : (b : Bool) → owns m t ≡ b → b ≡ true
    go true e = refl
    go false e = absurd (omega (arith, waits, called, some, ap (λ (x : Bool). if x then m.count else 0) e))

-- a thread that holds the object, and doesn't wait on it, owns its monitor
pub holder_owns : (m : PlainMachine) (t o : ℕ) (s : ThreadState) → IsBeside m t o s
    → waiting_on s.mode o ≡ 0 → 1 ≤ holds_of s o → owns (monitor_at m o) t ≡ true
holder_owns m t o s b runs held = owner_by_count (monitor_at m o) t (b.stands.listed ∙ runs) (omega (arith, held, b.stands.holds))

-- where no other thread is the owner, and this one isn't, nobody is
no_owner : (m : PlainMonitor) (t : ℕ) → other_owner m t ≡ None → owns m t ≡ false → m.owner ≡ None
no_owner m t free not_own = rw not_own at free

-- the monitor takes an enter of a thread that isn't listed, where no other thread is the owner
enter_some : (m : PlainMonitor) (t : ℕ) → times_listed m t ≡ 0 → other_owner m t ≡ None → is_some (enter m t) ≡ true
enter_some m t none free = go (owns m t) refl
  where
    waits : is_listed m.waits t ≡ false
    waits = unlisted m.waits t (omega (arith, none))

    called : is_listed m.called t ≡ false
    called = unlisted m.called t (omega (arith, none))

    go : (b : Bool) → owns m t ≡ b → is_some (enter m t) ≡ true
    go true b = rw b refl
    go false b = rw (no_owner m t free b, waits, called) refl

-- a resume of one that was called
called_some : (m : PlainMonitor) (t : ℕ) (c : Option ℕ) → count_of m.called t ≡ c → is_some c ≡ true → m.owner ≡ None → is_some (resume m t) ≡ true
called_some m t None at some free = absurd (false≢true some)
called_some m t (Some c) at some free = rw (at, free) refl

resume_some : (n : ℕ) (m : PlainMonitor) (t : ℕ) → IsMonitorOf n m → times_listed m t ≡ 1
    → is_listed m.waits t ≡ false → other_owner m t ≡ None → is_some (resume m t) ≡ true
resume_some n m t h one not_waits free = go (owns m t) refl
  where
    called : 1 ≤ times_in m.called t
    called = omega (arith, one, tally_unlisted (λ p. 1) m.waits t not_waits)

    go : (b : Bool) → owns m t ≡ b → is_some (resume m t) ≡ true
    go true e = absurd (let once = h.once t in omega (arith, one, once, ap {B = ℕ} (λ (x : Bool). if x then 1 else 0) e))
    go false e = called_some m t (count_of m.called t) refl (times_counted m.called t called) (no_owner m t free e)

-- a notify of the oldest
calls_some : (m : PlainMonitor) (ws : List (ℕ × ℕ)) → is_some (calls m ws (oldest ws)) ≡ true
calls_some m [] = refl
calls_some m (w ∷ ws) = rw (eq-eqb w.0 w.0 refl) refl

-- the steps that a monitor takes of its owner
exit_some : (m : PlainMonitor) (t : ℕ) → owns m t ≡ true → is_some (exit m t) ≡ true
exit_some m t b = rw b refl

wait_some : (m : PlainMonitor) (t : ℕ) → owns m t ≡ true → is_some (wait m t) ≡ true
wait_some m t b = rw b refl

notify_some : (m : PlainMonitor) (t : ℕ) → owns m t ≡ true → is_some (notify m t (oldest m.waits)) ≡ true
notify_some m t b = rw b (calls_some m m.waits)

notify_all_some : (m : PlainMonitor) (t : ℕ) → owns m t ≡ true → is_some (notify_all m t (length m.waits)) ≡ true
notify_all_some m t b = rw (b, eq-eqb (length m.waits) (length m.waits) refl) refl

-- an object takes what its monitor takes
monitor_some : (x : PlainObject) (r : Option PlainMonitor) → is_some r ≡ true → is_some (with_monitor x r) ≡ true
monitor_some x None h = absurd (false≢true h)
monitor_some x (Some n) h = refl

-- the objects take what one of them takes
named_some : (objects : List PlainObject) (o t : ℕ) (x : PlainObject) (e : Entry) → slice_get objects o ≡ Some x
    → is_some (take_at x t e) ≡ true → is_some (take_named objects t e (Some o)) ≡ true
named_some objects o t x e there some = go (take_at x t e) refl
  where
    go : (r : Option PlainObject) → take_at x t e ≡ r → is_some (take_named objects t e (Some o)) ≡ true
    go None at = absurd (false≢true (rw at at some))
    go (Some y) at = rw (there, at) refl

pub same_itself : (v : Value) → same_value v v ≡ true
same_itself Nil = refl
same_itself (Int z) = (Decides-int_eq z z).1 refl
same_itself (Ref o) = eq-eqb o o refl

-- what the objects take of a thread that runs and holds the object
pub record IsOwner (m : PlainMachine) (t o : ℕ) (s : ThreadState) : Type 0 where
  pub beside : IsBeside m t o s
  pub owns : owns (monitor_at m o) t ≡ true

pub exit_taken : (m : PlainMachine) (t o : ℕ) (s : ThreadState) → IsOwner m t o s → is_some (take_named m.objects t (Exit o) (Some o)) ≡ true
exit_taken m t o s h = named_some m.objects o t (object_at m o) (Exit o) h.beside.there
    (monitor_some (object_at m o) (exit (monitor_at m o) t) (exit_some (monitor_at m o) t h.owns))

pub wait_taken : (m : PlainMachine) (t o : ℕ) (s : ThreadState) → IsOwner m t o s → is_some (take_named m.objects t (Wait o) (Some o)) ≡ true
wait_taken m t o s h = named_some m.objects o t (object_at m o) (Wait o) h.beside.there
    (monitor_some (object_at m o) (wait (monitor_at m o) t) (wait_some (monitor_at m o) t h.owns))

pub notify_taken : (m : PlainMachine) (t o : ℕ) (s : ThreadState) → IsOwner m t o s
    → is_some (take_named m.objects t (Notify o (oldest (monitor_at m o).waits)) (Some o)) ≡ true
notify_taken m t o s h = named_some m.objects o t (object_at m o) (Notify o (oldest (monitor_at m o).waits)) h.beside.there
    (monitor_some (object_at m o) (notify (monitor_at m o) t (oldest (monitor_at m o).waits)) (notify_some (monitor_at m o) t h.owns))

pub notify_all_taken : (m : PlainMachine) (t o : ℕ) (s : ThreadState) → IsOwner m t o s
    → is_some (take_named m.objects t (NotifyAll o (length (monitor_at m o).waits)) (Some o)) ≡ true
notify_all_taken m t o s h = named_some m.objects o t (object_at m o) (NotifyAll o (length (monitor_at m o).waits)) h.beside.there
    (monitor_some (object_at m o) (notify_all (monitor_at m o) t (length (monitor_at m o).waits)) (notify_all_some (monitor_at m o) t h.owns))

pub get_taken : (m : PlainMachine) (t o k : ℕ) (s : ThreadState) → IsOwner m t o s
    → k < slots_of m.program o → is_some (take_named m.objects t (Get o k (slot_at m o k)) (Some o)) ≡ true
get_taken m t o k s h l =
    let at : slice_get (object_at m o).slots k ≡ Some (slot_at m o k) = slice_get-get_or (object_at m o).slots k Nil (omega (arith, l, h.beside.slots.count)) in
    let has : has_value (slice_get (object_at m o).slots k) (slot_at m o k) ≡ true =
    ap (λ (r : Option Value). has_value r (slot_at m o k)) at ∙ same_itself (slot_at m o k) in
    named_some m.objects o t (object_at m o) (Get o k (slot_at m o k)) h.beside.there (rw (h.owns, has) refl)

pub put_taken : (m : PlainMachine) (t o k : ℕ) (v : Value) (s : ThreadState) → IsOwner m t o s
    → k < slots_of m.program o → is_some (take_named m.objects t (Put o k v) (Some o)) ≡ true
put_taken m t o k v s h l =
    let count : length (object_at m o).slots ≡ slots_of m.program o = h.beside.slots.count in
    let within : nat_lt k (length (object_at m o).slots) ≡ true = grind (arith, nat_tests) in
    named_some m.objects o t (object_at m o) (Put o k v) h.beside.there (rw (h.owns, within) refl)

-- and of one that need not own the monitor
pub enter_taken : (m : PlainMachine) (t o : ℕ) (path : _) (s : ThreadState) → IsBeside m t o s → waiting_on s.mode o ≡ 0
    → other_owner (monitor_at m o) t ≡ None → is_some (take_named m.objects t (Enter o path) (Some o)) ≡ true
enter_taken m t o path s h runs free = named_some m.objects o t (object_at m o) (Enter o path) h.there
    (monitor_some (object_at m o) (enter (monitor_at m o) t) (enter_some (monitor_at m o) t (h.stands.listed ∙ runs) free))

pub resume_taken : (m : PlainMachine) (t o : ℕ) (s : ThreadState) → IsBeside m t o s
    → waiting_on s.mode o ≡ 1 → is_listed (monitor_at m o).waits t ≡ false → other_owner (monitor_at m o) t ≡ None
    → is_some (take_named m.objects t (Resume o) (Some o)) ≡ true
resume_taken m t o s h waits not_waits free =
    named_some m.objects o t (object_at m o) (Resume o) h.there (monitor_some (object_at m o) (resume (monitor_at m o) t)
    (resume_some (length m.threads) (monitor_at m o) t h.monitor (h.stands.listed ∙ waits) not_waits free))

-- a hash is taken again, and a first one
hash_some : (x : PlainObject) (r : Option (Option ℕ)) → is_some r ≡ true → is_some (with_hash x r) ≡ true
hash_some x None h = absurd (false≢true h)
hash_some x (Some k) h = refl

pub hash_taken : (m : PlainMachine) (t o v : ℕ) (drawn : Option ℕ) (s : ThreadState) → IsBeside m t o s
    → (object_at m o).hash ≡ Some v → is_some (take_named m.objects t (Hash o v drawn) (Some o)) ≡ true
hash_taken m t o v drawn s h at =
    let again : is_some (hashed (object_at m o).hash v) ≡ true = rw (at, eq-eqb v v refl) refl in
    named_some m.objects o t (object_at m o) (Hash o v drawn) h.there (hash_some (object_at m o) (hashed (object_at m o).hash v) again)

pub first_hash_taken : (m : PlainMachine) (t o v : ℕ) (drawn : Option ℕ) (s : ThreadState) → IsBeside m t o s
    → (object_at m o).hash ≡ None → IsHash v → is_some (take_named m.objects t (Hash o v drawn) (Some o)) ≡ true
first_hash_taken m t o v drawn s h at is =
    let some : 1 ≤ v = is.0 in
    let low : v < 2 ^ 31 = is.1 in
    let test : (nat_le 1 v && nat_lt v (2 ^ 31)) ≡ true = and_from (nat_le 1 v) (nat_lt v (2 ^ 31)) (grind (arith, nat_tests)) (grind (arith, nat_tests)) in
    let first : is_some (hashed (object_at m o).hash v) ≡ true = rw (at, test) refl in
    named_some m.objects o t (object_at m o) (Hash o v drawn) h.there (hash_some (object_at m o) (hashed (object_at m o).hash v) first)
