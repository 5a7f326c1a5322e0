-- A reached machine takes each entry that it offers.
use Rattle.std.proofs.Common.{◌≡◌, ℕ, ◌<◌, ◌≤◌, ◌^◌, Bool, true, false, ◌&&◌, ◌==◌, if◌then◌else◌, List, length, slice_get, Option}
use Rattle.std.proofs.Common.{Some, None, IsSome, is_some, option_and_then, refl, sym, ap, ◌∙◌, subst, eq-eqb, eqb-true}
use Rattle.std.proofs.lemmas.Bool.{false≢true, and_from}
use Rattle.plain_monitor.specs.declared.entry.Value.{Value}
use Rattle.plain_monitor.specs.declared.entry.Path.TheVariants.{StackFirst}
use Rattle.plain_monitor.specs.declared.entry.Ending.{Ending}
use Rattle.plain_monitor.specs.declared.entry.Ending.TheVariants as ending
use Rattle.plain_monitor.specs.declared.entry.Entry.{Entry}
use Rattle.plain_monitor.specs.declared.entry.Entry.TheVariants.{Enter, Exit, Get, Put, Wait, Resume, Notify, NotifyAll, Hash, New, Print, Dump}
use Rattle.plain_monitor.specs.Monitor.{is_listed}
use Rattle.plain_monitor.specs.Objects.{PlainObject, same_value, take_entry}
use Rattle.plain_monitor.specs.Made.{creates}
use Rattle.plain_history.proofs.MadeSteps.{grown}
use Rattle.plain_machine.specs.declared.monitor_call.MonitorCall.{MonitorCall}
use Rattle.plain_machine.specs.declared.monitor_call.MonitorCall.TheVariants as call
use Rattle.plain_machine.specs.declared.monitor_call.NextEntry.{NextEntry}
use Rattle.plain_machine.specs.declared.monitor_call.NextEntry.TheVariants.{Calls, Resumes, Leaves, Ends}
use Rattle.plain_machine.specs.declared.offer.Offer.{Offer}
use Rattle.plain_machine.specs.declared.offer.Offer.TheVariants as offer
use Rattle.plain_machine.specs.Thread.{ThreadState}
use Rattle.plain_machine.specs.Asking.{ask, fits, is_ending, fault_number, after_entry, thread_after}
use Rattle.plain_machine.specs.Machine.{PlainMachine, code_of, made_after_entry, take, object_at, monitor_at, slot_at, other_owner}
use Rattle.plain_monitor.specs.Endings.{ending_entry}
use Rattle.plain_machine.specs.Offering.{next_made, unless_owned, hash_offer, oldest, asked_offer, offered}
use Rattle.machine_laws.specs.ReachedMonitor.{waiting_on}
use Rattle.machine_laws.specs.ReachedThread.{IsHeld}
use Rattle.machine_laws.specs.Reached.{IsReached}
use Rattle.machine_laws.proofs.ReachedFrame.{IsMaker}
use Rattle.machine_laws.proofs.ReachedAsked.{IsPaid, IsAwaited, IsLeft, IsAskedOf, asked_of}
use Rattle.machine_laws.proofs.ReachedKinds.{thread_of}
use Rattle.machine_laws.proofs.RefusedEntries.{other_number}
use Rattle.machine_laws.proofs.ReachedNeeds.{made_there, new_there}
use Rattle.machine_laws.proofs.ReachedStanding.{IsOwner, beside, holder_owns, same_itself, enter_taken, exit_taken, wait_taken, resume_taken}
use Rattle.machine_laws.proofs.ReachedStanding.{notify_taken, notify_all_taken, get_taken, put_taken, hash_taken, first_hash_taken}

-- an entry is taken that fits what is asked, where it finds what it needs and the objects take it
take_made_some : (m : PlainMachine) (t : ℕ) (s : ThreadState) (a : NextEntry) (e : Entry) (made : List (List ℕ))
    → IsMaker m t s → ask s ≡ Some a → fits a e ≡ true
    → made_after_entry m t e ≡ Some made → is_some (take_entry m.objects t e) ≡ true → IsSome (take m t e)
take_made_some m t s a e made h asks fit makes takes =
    by_objects (take_entry m.objects t e) refl takes
  where
    by_objects : (r : Option (List PlainObject)) → take_entry m.objects t e ≡ r → is_some r ≡ true → IsSome (take m t e)
    by_objects None at some = absurd (false≢true some)
    by_objects (Some objects) at some =
        let after : thread_after m.program (code_of m.program t) s e ≡ Some (after_entry m.program (code_of m.program t) s a e) = rw (asks, fit) refl in
        rw (h.at, after, makes, at) refl

-- it does, where it makes no object
take_some : (m : PlainMachine) (t : ℕ) (s : ThreadState) (a : NextEntry) (e : Entry) → IsMaker m t s → ask s ≡ Some a → fits a e ≡ true → creates e ≡ None
    → is_some (take_entry m.objects t e) ≡ true → IsSome (take m t e)
take_some m t s a e h asks fit none takes = take_made_some m t s a e m.made h asks fit (made_there m t s a e h asks fit none) takes

-- a thread that stands before a call waits on nothing, and owns what it holds
runs : (m : PlainMachine) (s : ThreadState) (c : MonitorCall) (o : ℕ) → IsPaid m.program s c → waiting_on s.mode o ≡ 0
runs m s c o paid = ap (λ k. waiting_on k o) paid.mode

caller_owns : (m : PlainMachine) (t o : ℕ) (s : ThreadState) (c : MonitorCall)
    → IsMaker m t s → IsPaid m.program s c → IsHeld m.program s.holds o → IsOwner m t o s
caller_owns m t o s c h paid held = let b = beside m t o s h held.0 in record { beside = b; owns = holder_owns m t o s b (runs m s c o paid) held.1 }

leaver_owns : (m : PlainMachine) (t o : ℕ) (s : ThreadState) → IsMaker m t s → IsLeft m.program s o → IsOwner m t o s
leaver_owns m t o s h left = let b = beside m t o s h left.held.0 in
    record { beside = b; owns = holder_owns m t o s b (ap (λ k. waiting_on k o) left.mode) left.held.1 }

ending_itself : (g : Ending) → is_ending g (ending_entry g) ≡ true
ending_itself (ending.Trap f i) = and_from (fault_number f == fault_number f) (i == i) (eq-eqb (fault_number f) (fault_number f) refl) (eq-eqb i i refl)
ending_itself ending.Spent = refl
ending_itself ending.Done = refl

ending_makes : (g : Ending) → creates (ending_entry g) ≡ None
ending_makes (ending.Trap f i) = refl
ending_makes _ = refl

ending_taken : (objects : List PlainObject) (t : ℕ) (g : Ending) → is_some (take_entry objects t (ending_entry g)) ≡ true
ending_taken objects t (ending.Trap f i) = refl
ending_taken objects t _ = refl

-- an entry that is offered, as it is asked
next_is : (x e : Entry) → offer.Next x ≡ offer.Next e → x ≡ e
next_is x e h = cc

-- the entry that is offered is taken where this one is
taken_as : (m : PlainMachine) (t : ℕ) (x e : Entry) → offer.Next x ≡ offer.Next e → IsSome (take m t x) → IsSome (take m t e)
taken_as m t x e next some = subst (λ (y : Entry). IsSome (take m t y)) (next_is x e next) some

enter_offered : (m : PlainMachine) (t o : ℕ) (s : ThreadState) (e : Entry) (owner : Option ℕ)
    → IsMaker m t s → ask s ≡ Some (Calls (call.Enter o)) → IsPaid m.program s (call.Enter o)
    → other_owner (monitor_at m o) t ≡ owner → unless_owned o owner (Enter o StackFirst) ≡ offer.Next e → IsSome (take m t e)
enter_offered m t o s e None h asks paid free next =
    taken_as m t (Enter o StackFirst) e next
    (take_some m t s (Calls (call.Enter o)) (Enter o StackFirst) h asks (eq-eqb o o refl) refl
    (enter_taken m t o StackFirst s (beside m t o s h paid.call.0) (runs m s (call.Enter o) o paid) free))
enter_offered m t o s e (Some u) h asks paid free next = absurd (cc)

hash_offered : (m : PlainMachine) (t x o : ℕ) (s : ThreadState) (e : Entry) (hash : Option ℕ)
    → IsMaker m t s → ask s ≡ Some (Calls (call.Hash x o)) → IsPaid m.program s (call.Hash x o)
    → (object_at m o).hash ≡ hash → hash_offer o hash ≡ offer.Next e → IsSome (take m t e)
hash_offered m t x o s e None h asks paid at next = absurd (cc)
hash_offered m t x o s e (Some v) h asks paid at next =
    taken_as m t (Hash o v None) e next
    (take_some m t s (Calls (call.Hash x o)) (Hash o v None) h asks (eq-eqb o o refl) refl (hash_taken m t o v None s (beside m t o s h paid.call) at))

-- what fits a get and a put
get_fits : (x o k : ℕ) (v : Value) → fits (Calls (call.Get x o k)) (Get o k v) ≡ true
get_fits x o k v = and_from (o == o) (k == k) (eq-eqb o o refl) (eq-eqb k k refl)

put_fits : (o k : ℕ) (v : Value) → fits (Calls (call.Put o k v)) (Put o k v) ≡ true
put_fits o k v = and_from ((o == o) && (k == k)) (same_value v v) (get_fits o o k v) (same_itself v)

call_offered : (m : PlainMachine) (t : ℕ) (s : ThreadState) (c : MonitorCall) (e : Entry) → IsMaker m t s
    → ask s ≡ Some (Calls c) → IsPaid m.program s c → asked_offer m t (Some (Calls c)) ≡ offer.Next e → IsSome (take m t e)
call_offered m t s (call.Enter o) e h asks paid next = enter_offered m t o s e (other_owner (monitor_at m o) t) h asks paid refl next
call_offered m t s (call.Exit o) e h asks paid next =
    taken_as m t (Exit o) e next (take_some m t s (Calls (call.Exit o)) (Exit o) h asks
    (eq-eqb o o refl) refl (exit_taken m t o s (caller_owns m t o s (call.Exit o) h paid paid.call)))
call_offered m t s (call.Wait o) e h asks paid next =
    taken_as m t (Wait o) e next (take_some m t s (Calls (call.Wait o)) (Wait o) h asks
    (eq-eqb o o refl) refl (wait_taken m t o s (caller_owns m t o s (call.Wait o) h paid paid.call)))
call_offered m t s (call.Notify o) e h asks paid next =
    let x : Entry = Notify o (oldest (monitor_at m o).waits) in
    taken_as m t x e next (take_some m t s (Calls (call.Notify o)) x h asks (eq-eqb o o refl) refl
    (notify_taken m t o s (caller_owns m t o s (call.Notify o) h paid paid.call)))
call_offered m t s (call.NotifyAll o) e h asks paid next =
    let x : Entry = NotifyAll o (length (monitor_at m o).waits) in
    taken_as m t x e next (take_some m t s (Calls (call.NotifyAll o)) x h asks (eq-eqb o o refl) refl
    (notify_all_taken m t o s (caller_owns m t o s (call.NotifyAll o) h paid paid.call)))
call_offered m t s (call.Get x o k) e h asks paid next =
    let owner = caller_owns m t o s (call.Get x o k) h paid paid.call.0 in
    taken_as m t (Get o k (slot_at m o k)) e next (take_some m t s (Calls (call.Get x o k))
    (Get o k (slot_at m o k)) h asks (get_fits x o k (slot_at m o k)) refl (get_taken m t o k s owner paid.call.1))
call_offered m t s (call.Put o k v) e h asks paid next =
    let owner = caller_owns m t o s (call.Put o k v) h paid paid.call.0 in
    taken_as m t (Put o k v) e next
    (take_some m t s (Calls (call.Put o k v)) (Put o k v) h asks (put_fits o k v) refl (put_taken m t o k v s owner paid.call.1))
call_offered m t s (call.Hash x o) e h asks paid next = hash_offered m t x o s e (object_at m o).hash h asks paid refl next
call_offered m t s (call.New x c) e h asks paid next =
    let made : Entry = New (next_made m t) c in
    taken_as m t made e next (take_made_some m t s (Calls (call.New x c)) made (grown m.made t c) h asks (eq-eqb c c refl) (new_there m t x c s h paid) refl)
call_offered m t s (call.Print v) e h asks paid next =
    taken_as m t (Print v) e next (take_some m t s (Calls (call.Print v)) (Print v) h asks (same_itself v) refl refl)
call_offered m t s (call.Dump n) e h asks paid next =
    taken_as m t (Dump n) e next (take_some m t s (Calls (call.Dump n)) (Dump n) h asks (eq-eqb n n refl) refl refl)

-- a New of a thread that asks for one is taken just where its number is the thread's next
pub new_is_next : (m : PlainMachine) (t x c o : ℕ) (s : ThreadState) → IsReached m → slice_get m.threads t ≡ Some s
    → ask s ≡ Some (Calls (call.New x c)) → is_some (take m t (New o c)) ≡ (o == next_made m t)
new_is_next m t x c o s h at asks = by_number (o == next_made m t) refl
  where
    maker : IsMaker m t s
    maker = record { reached = h; at = at }

    next : is_some (take m t (New (next_made m t) c)) ≡ true
    next =
        take_made_some m t s (Calls (call.New x c)) (New (next_made m t) c) (grown m.made t c) maker asks (eq-eqb c c refl)
        (new_there m t x c s maker (asked_of m.program s (Calls (call.New x c)) (thread_of m t s maker) asks)) refl

    by_number : (b : Bool) → (o == next_made m t) ≡ b → is_some (take m t (New o c)) ≡ b
    by_number true e = ap (λ (k : ℕ). is_some (take m t (New k c))) (eqb-true o (next_made m t) e) ∙ next
    by_number false e = ap is_some (other_number m t o c (λ same. absurd (false≢true (sym e ∙ eq-eqb o (next_made m t) same))))

resume_unowned : (m : PlainMachine) (t o : ℕ) (s : ThreadState) (e : Entry) (owner : Option ℕ)
    → IsMaker m t s → ask s ≡ Some (Resumes o) → IsAwaited m.program s o
    → is_listed (monitor_at m o).waits t ≡ false → other_owner (monitor_at m o) t ≡ owner → unless_owned o owner (Resume o) ≡ offer.Next e → IsSome (take m t e)
resume_unowned m t o s e None h asks awaited called free next =
    let waits : waiting_on s.mode o ≡ 1 = ap (λ k. waiting_on k o) awaited.mode ∙ rw (eq-eqb o o refl) refl in
    taken_as m t (Resume o) e next (take_some m t s (Resumes o) (Resume o) h asks
    (eq-eqb o o refl) refl (resume_taken m t o s (beside m t o s h awaited.there) waits called free))
resume_unowned m t o s e (Some u) h asks awaited called free next = absurd (cc)

resume_offered : (m : PlainMachine) (t o : ℕ) (s : ThreadState) (e : Entry) (listed : Bool) → IsMaker m t s → ask s ≡ Some (Resumes o) → IsAwaited m.program s o
    → is_listed (monitor_at m o).waits t ≡ listed
    → (if listed then offer.Waiting o else unless_owned o (other_owner (monitor_at m o) t) (Resume o)) ≡ offer.Next e → IsSome (take m t e)
resume_offered m t o s e true h asks awaited at next = absurd (cc)
resume_offered m t o s e false h asks awaited at next = resume_unowned m t o s e (other_owner (monitor_at m o) t) h asks awaited at refl next

asked_offered : (m : PlainMachine) (t : ℕ) (s : ThreadState) (a : NextEntry) (e : Entry) → IsMaker m t s
    → ask s ≡ Some a → IsAskedOf m.program s a → asked_offer m t (Some a) ≡ offer.Next e → IsSome (take m t e)
asked_offered m t s (Calls c) e h asks asked next = call_offered m t s c e h asks asked next
asked_offered m t s (Resumes o) e h asks asked next = resume_offered m t o s e (is_listed (monitor_at m o).waits t) h asks asked refl next
asked_offered m t s (Leaves o) e h asks asked next =
    taken_as m t (Exit o) e next (take_some m t s (Leaves o) (Exit o) h asks (eq-eqb o o refl) refl (exit_taken m t o s (leaver_owns m t o s h asked)))
asked_offered m t s (Ends g) e h asks asked next =
    taken_as m t (ending_entry g) e next (take_some m t s (Ends g) (ending_entry g) h asks (ending_itself g) (ending_makes g) (ending_taken m.objects t g))

-- an offer of an entry, or of a hash
abbrev pub IsMade : Offer → Type 0
IsMade (offer.Next e) = Unit {0}
IsMade (offer.NextHash o) = Unit {0}
IsMade o = ⊥

-- the thread that an offer is made to, and what it asks
pub record IsOffered (m : PlainMachine) (t : ℕ) (made : Offer) : Type 0 where
  pub s : ThreadState
  pub asked : NextEntry
  pub maker : IsMaker m t s
  pub asks : ask s ≡ Some asked
  pub is : IsAskedOf m.program s asked
  pub made_is : asked_offer m t (Some asked) ≡ made

not_ended : (made : Offer) → IsMade made → offer.Ended ≡ made → ⊥
not_ended (offer.Next e) h q = cc
not_ended (offer.NextHash o) h q = cc
not_ended made h q = h

offered_asked : (m : PlainMachine) (t : ℕ) (s : ThreadState) (made : Offer) → IsMaker m t s → IsMade made → asked_offer m t (ask s) ≡ made → IsOffered m t made
offered_asked m t s made h some e = go (ask s) refl
  where
    go : (a : Option NextEntry) → ask s ≡ a → IsOffered m t made
    go None asks = absurd (not_ended made some (ap (asked_offer m t) (sym asks) ∙ e))
    go (Some a) asks = record {
      s = s;
      asked = a;
      maker = h;
      asks = asks;
      is = asked_of m.program s a (thread_of m t s h) asks;
      made_is = ap (asked_offer m t) (sym asks) ∙ e;
    }

pub offered_to : (m : PlainMachine) (t : ℕ) (made : Offer) → IsReached m → IsMade made → offered m t ≡ made → IsOffered m t made
offered_to m t made h some e = go (slice_get m.threads t) refl
  where
    go : (state : Option ThreadState) → slice_get m.threads t ≡ state → IsOffered m t made
    go None at = absurd (not_ended made some (ap (λ (o : Option ThreadState). asked_offer m t (option_and_then ask o)) (sym at) ∙ e))
    go (Some s) at = offered_asked m t s made (record { reached = h; at = at }) some
        (ap (λ (o : Option ThreadState). asked_offer m t (option_and_then ask o)) (sym at) ∙ e)

pub offered_is_taken : (m : PlainMachine) (t : ℕ) (e : Entry) → IsReached m → offered m t ≡ offer.Next e → IsSome (take m t e)
offered_is_taken m t e h next = let r = offered_to m t (offer.Next e) h tt next in asked_offered m t r.s r.asked e r.maker r.asks r.is r.made_is

-- who is offered a hash asks for it, and the object has none
pub record IsHashAsked (s : ThreadState) (m : PlainMachine) (o : ℕ) (a : NextEntry) : Type 0 where
  pub local : ℕ
  pub asked : a ≡ Calls (call.Hash local o)
  pub unhashed : (object_at m o).hash ≡ None

hash_by : (m : PlainMachine) (s : ThreadState) (x k o : ℕ) (hash : Option ℕ) → (object_at m k).hash ≡ hash
    → hash_offer k hash ≡ offer.NextHash o → IsHashAsked s m o (Calls (call.Hash x k))
hash_by m s x k o None at e = let same : k ≡ o = cc in record {
  local = x;
  asked = ap (λ i. Calls (call.Hash x i)) same;
  unhashed = subst (λ (i : ℕ). (object_at m i).hash ≡ None) same at;
}
hash_by m s x k o (Some v) at e = absurd (cc)

unless_no_hash : (k o : ℕ) (owner : Option ℕ) (e : Entry) → unless_owned k owner e ≡ offer.NextHash o → ⊥
unless_no_hash k o None e h = cc
unless_no_hash k o (Some u) e h = cc

resume_no_hash : (listed : Bool) (k o : ℕ) (owner : Option ℕ) → (if listed then offer.Waiting k else unless_owned k owner (Resume k)) ≡ offer.NextHash o → ⊥
resume_no_hash true k o owner h = cc
resume_no_hash false k o owner h = unless_no_hash k o owner (Resume k) h

hash_call : (m : PlainMachine) (t o : ℕ) (s : ThreadState) (c : MonitorCall) → asked_offer m t (Some (Calls c)) ≡ offer.NextHash o → IsHashAsked s m o (Calls c)
hash_call m t o s (call.Hash x k) e = hash_by m s x k o (object_at m k).hash refl e
hash_call m t o s (call.Enter k) e = absurd (unless_no_hash k o (other_owner (monitor_at m k) t) (Enter k StackFirst) e)
hash_call m t o s c e = absurd (cc)

hash_asked : (m : PlainMachine) (t o : ℕ) (s : ThreadState) (a : NextEntry) → asked_offer m t (Some a) ≡ offer.NextHash o → IsHashAsked s m o a
hash_asked m t o s (Calls c) e = hash_call m t o s c e
hash_asked m t o s (Resumes k) e = absurd (resume_no_hash (is_listed (monitor_at m k).waits t) k o (other_owner (monitor_at m k) t) e)
hash_asked m t o s (Leaves k) e = absurd (cc)
hash_asked m t o s (Ends g) e = absurd (cc)

pub offered_hash_is_taken : (m : PlainMachine) (t o value : ℕ) (drawn : Option ℕ) → IsReached m
    → offered m t ≡ offer.NextHash o → 1 ≤ value → value < 2 ^ 31 → IsSome (take m t (Hash o value drawn))
offered_hash_is_taken m t o value drawn h next some low =
    let r = offered_to m t (offer.NextHash o) h tt next in
    let k = hash_asked m t o r.s r.asked r.made_is in
    let paid : IsPaid m.program r.s (call.Hash k.local o) = subst (IsAskedOf m.program r.s) k.asked r.is in
    let asks : ask r.s ≡ Some (Calls (call.Hash k.local o)) = r.asks ∙ ap Some k.asked in
    take_some m t r.s (Calls (call.Hash k.local o)) (Hash o value drawn) r.maker asks (eq-eqb o o refl) refl
    (first_hash_taken m t o value drawn r.s (beside m t o r.s r.maker paid.call) k.unhashed (some, low))
