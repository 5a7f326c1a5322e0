-- Each thread, object and value that a reached machine names is one of its own.
use Rattle.std.proofs.Common.{◌≡◌, ℕ, ◌+◌, ◌<◌, ◌≤◌, Bool, true, false, ◌&&◌, ◌==◌, if◌then◌else◌, List, [], ◌∷◌, ◌++◌, length, sum, slice_get}
use Rattle.std.proofs.Common.{Option, Some, None, MatchOption, option_and_then, refl, sym, subst, arith, eqb-true, eq-eqb, inl, inr, ap, ◌∙◌}
use Rattle.std.specs.List.{AllByRecursion}
use Rattle.std.proofs.lemmas.Bool.{cases_lt, false≢true, and_parts}
use Rattle.std.proofs.lemmas.List.{get_or_past}
use Rattle.std.proofs.lemmas.List.Sums.{get_or-le-sum_by}
use Rattle.std.proofs.lemmas.Option.{none-some, same_Some, cond_some, slice_get_within}
use Rattle.plain_monitor.specs.Limits.{most_holds}
use Rattle.plain_monitor.specs.declared.entry.Value.{Value}
use Rattle.plain_monitor.specs.declared.entry.Value.TheVariants.{Nil, Ref}
use Rattle.plain_monitor.specs.declared.entry.Path.TheVariants.{StackFirst}
use Rattle.plain_monitor.specs.declared.entry.Ending.TheVariants as ending
use Rattle.plain_monitor.specs.declared.entry.Entry.{Entry}
use Rattle.plain_monitor.specs.declared.entry.Entry.TheVariants.{Enter, Exit, Get, Put, Wait, Resume, Notify, NotifyAll}
use Rattle.plain_monitor.specs.declared.entry.Entry.TheVariants.{Hash, New, Print, Dump, Trap}
use Rattle.plain_monitor.specs.Monitor.{PlainMonitor, is_thread, is_listed, owns, calls, notify}
use Rattle.plain_monitor.specs.Objects.{PlainObject, new_object, same_value, hashed, with_monitor, with_hash, take_named, take_entry}
use Rattle.plain_monitor.specs.Made.{is_there, may_create}
use Rattle.plain_history.proofs.MadeSteps.{grown, creating}
use Rattle.object_program.specs.Program.{objects_total, numbering_of}
use Rattle.plain_machine.specs.declared.monitor_call.MonitorCall.TheVariants as call
use Rattle.plain_machine.specs.declared.monitor_call.NextEntry.{NextEntry}
use Rattle.plain_machine.specs.declared.monitor_call.NextEntry.TheVariants.{Calls, Resumes, Ends}
use Rattle.plain_machine.specs.declared.offer.Offer.{Offer}
use Rattle.plain_machine.specs.declared.offer.Offer.TheVariants as offer
use Rattle.plain_machine.specs.Thread.{ThreadState, local}
use Rattle.plain_machine.specs.Asking.{ask, fits}
use Rattle.plain_machine.specs.Machine.{PlainMachine, made_after_entry, take, object_at, monitor_at, slot_at, other_owner}
use Rattle.plain_machine.specs.Offering.{unless_owned, hash_offer, asked_offer, offered}
use Rattle.machine_laws.specs.ReachedMonitor.{for_owner, standing, IsPlaceOf, IsOwnerOf, IsMonitorOf}
use Rattle.plain_machine.specs.Values.{IsValueOf, IsObject}
use Rattle.machine_laws.specs.References.{IsThere, RefersTo, ThreadRefersTo, SlotsReferTo}
use Rattle.machine_laws.specs.ReachedThread.{IsThreadOf}
use Rattle.machine_laws.specs.Reached.{IsHash, HasMonitor, IsReached}
use Rattle.machine_laws.specs.ReachedEntry.{IsEntryOf, IsOfferOf}
use Rattle.plain_monitor.proofs.Lists.{all_at, all_or, all_weaker}
use Rattle.machine_laws.proofs.ReachedLists.{each_or, at_within, all_bounded}
use Rattle.machine_laws.proofs.ReachedMonitor.{free_is}
use Rattle.machine_laws.proofs.ReachedFrame.{IsMaker}
use Rattle.machine_laws.proofs.ReachedAsked.{IsAskedOf, asked_of, taken, taken_at}
use Rattle.machine_laws.proofs.ReachedMade.{new_below}
use Rattle.machine_laws.proofs.ReachedObjects.{same_is, get_step, hash_taken}
use Rattle.machine_laws.proofs.ReachedKinds.{thread_of}
use Rattle.machine_laws.proofs.ReachedStanding.{beside}
use Rattle.machine_laws.proofs.ReachedOffered.{offered_is_taken}

-- the monitor with a number, which is free where there is no object
any_monitor : (m : PlainMachine) (o : ℕ) → IsReached m → IsMonitorOf (length m.threads) (monitor_at m o)
any_monitor m o h = each_or (HasMonitor (length m.threads)) m.objects o (new_object 0) h.monitors (free_is (length m.threads))

owner_in : (n count t : ℕ) (owner : Option ℕ) → IsOwnerOf n count owner → owner ≡ Some t → t < n
owner_in n count t None is e = absurd (none-some t e)
owner_in n count t (Some u) is e = subst (λ (k : ℕ). k < n) (same_Some u t e) is.0

pub owner_in_range : (m : PlainMachine) (o t : ℕ) → IsReached m → (monitor_at m o).owner ≡ Some t → t < length m.threads
owner_in_range m o t h e = owner_in (length m.threads) (monitor_at m o).count t (monitor_at m o).owner (any_monitor m o h).owner e

places_in : (n : ℕ) (ws : List (ℕ × ℕ)) → AllByRecursion (IsPlaceOf n) ws → AllByRecursion (λ w. w.0 < n) ws
places_in n ws all = all_weaker (IsPlaceOf n) (λ w. w.0 < n) (λ w is. is.0) ws all

-- no thread holds objects more often than it may
pub holds_in_range : (m : PlainMachine) (t : ℕ) (s : ThreadState) → IsReached m → slice_get m.threads t ≡ Some s → sum s.holds ≤ most_holds
holds_in_range m t s h at = (thread_of m t s (record { reached = h; at = at })).state.few

-- nor does a monitor count more for a thread
standing_there : (m : PlainMachine) (o t : ℕ) → IsReached m → o < length m.objects → t < length m.threads → standing (monitor_at m o) t ≤ most_holds
standing_there m o t h lo lt =
    let r = at_within m.threads t lt in
    let maker : IsMaker m t r.element = record { reached = h; at = r.at } in
    let object : IsObject m.program o = omega (arith, h.object_count, lo) in
    let stands = (beside m t o r.element maker object).stands in
    let within : o < length r.element.holds = omega (arith, object, (thread_of m t r.element maker).state.holds) in
    omega (arith, stands.holds, holds_in_range m t r.element h r.at, get_or-le-sum_by (λ (x : ℕ). x) r.element.holds o 0 within)

standing_in_range : (m : PlainMachine) (o t : ℕ) → IsReached m → t < length m.threads → standing (monitor_at m o) t ≤ most_holds
standing_in_range m o t h lt = elim (cases_lt o (length m.objects)) [
  | inl within ↦ standing_there m o t h within lt
  | inr past ↦ let free : standing (monitor_at m o) t ≡ 0 =
      ap (λ (x : PlainObject). standing x.monitor t) (get_or_past m.objects o (new_object 0) past) in omega (arith, free)
]

owner_count : (n : ℕ) (m : PlainMonitor) (owner : Option ℕ) → m.owner ≡ owner
    → IsOwnerOf n m.count owner → ((t : ℕ) → t < n → standing m t ≤ most_holds) → m.count ≤ most_holds
owner_count n m None at is h = omega (arith, is)
owner_count n m (Some t) at is h =
    let own : for_owner m.owner m.count t ≡ m.count =
    ap (λ (x : Option ℕ). for_owner x m.count t) at ∙ rw (eq-eqb t t refl) refl in omega (arith, own, h t is.0)

pub count_in_range : (m : PlainMachine) (o : ℕ) → IsReached m → (monitor_at m o).count ≤ most_holds
count_in_range m o h =
    owner_count (length m.threads) (monitor_at m o) (monitor_at m o).owner refl (any_monitor m o h).owner (λ t l. standing_in_range m o t h l)

pub waits_in_range : (m : PlainMachine) (o : ℕ) → IsReached m → AllByRecursion (λ w. (w.0 < length m.threads) × (w.1 ≤ most_holds)) (monitor_at m o).waits
waits_in_range m o h =
    all_bounded (length m.threads) most_holds (monitor_at m o).waits (places_in (length m.threads) (monitor_at m o).waits (any_monitor m o h).waits)
    (λ t l. let k = standing_in_range m o t h l in omega (arith, k))

pub called_in_range : (m : PlainMachine) (o : ℕ) → IsReached m → AllByRecursion (λ w. (w.0 < length m.threads) × (w.1 ≤ most_holds)) (monitor_at m o).called
called_in_range m o h =
    all_bounded (length m.threads) most_holds (monitor_at m o).called (places_in (length m.threads) (monitor_at m o).called (any_monitor m o h).called)
    (λ t l. let k = standing_in_range m o t h l in omega (arith, k))

-- the values of a program's objects are those of the machine's
of_machine : (m : PlainMachine) (v : Value) → IsReached m → IsValueOf (objects_total m.program) v → IsValueOf (length m.objects) v
of_machine m v h is = subst (λ (n : ℕ). IsValueOf n v) (sym h.object_count) is

pub local_in_range : (m : PlainMachine) (t x : ℕ) (s : ThreadState) → IsReached m → slice_get m.threads t ≡ Some s → IsValueOf (length m.objects) (local s x)
local_in_range m t x s h at =
    let thread : IsThreadOf m.program s = thread_of m t s (record { reached = h; at = at }) in
    of_machine m (local s x) h (all_or (IsValueOf (objects_total m.program)) s.locals x Nil (tt, tt) thread.state.locals)

pub slot_in_range : (m : PlainMachine) (o k : ℕ) → IsReached m → IsValueOf (length m.objects) (slot_at m o k)
slot_in_range m o k h =
    let values : AllByRecursion (IsValueOf (objects_total m.program)) (object_at m o).slots =
    each_or (λ i (x : PlainObject). AllByRecursion (IsValueOf (objects_total m.program)) x.slots) m.objects o
    (new_object 0) (λ i x e. (h.slots i x e).values) tt in
    of_machine m (slot_at m o k) h (all_or (IsValueOf (objects_total m.program)) (object_at m o).slots k Nil (tt, tt) values)

-- the object that took an entry is there
within : (objects : List PlainObject) (o t : ℕ) (e : Entry) (after : List PlainObject) → take_named objects t e (Some o) ≡ Some after → o < length objects
within objects o t e after takes = let r = taken_at objects o t e after takes in slice_get_within objects o r.x r.there

-- the thread that a notify wakes was listed
woken_in : (n : ℕ) (m next : PlainMonitor) (ws : List (ℕ × ℕ)) (woken : Option ℕ)
    → AllByRecursion (IsPlaceOf n) ws → calls m ws woken ≡ Some next → MatchOption woken (Unit {0}) (λ u. u < n)
woken_in n m next ws None all e = tt
woken_in n m next [] (Some u) all e = absurd (none-some next e)
woken_in n m next (p ∷ ps) (Some u) all e =
    let r = cond_some (p.0 == u) (record m { waits = ps; called = m.called ++ p ∷ [] }) next e in
    subst (λ (k : ℕ). k < n) (eqb-true p.0 u r.0) all.0.0

notify_in : (n t : ℕ) (m next : PlainMonitor) (woken : Option ℕ) → IsMonitorOf n m → notify m t woken ≡ Some next → MatchOption woken (Unit {0}) (λ u. u < n)
notify_in n t m next woken h e = go (owns m t) refl
  where
    go : (b : Bool) → owns m t ≡ b → MatchOption woken (Unit {0}) (λ u. u < n)
    go true at = woken_in n m next m.waits woken h.waits (rw at at e)
    go false at = absurd (none-some next (rw at at e))

-- a step of the monitor stands after a step of its object
stepped : (x y : PlainObject) (r : Option PlainMonitor) (P : Type 0) → ((next : PlainMonitor) → r ≡ Some next → P) → with_monitor x r ≡ Some y → P
stepped x y None P h e = absurd (none-some y e)
stepped x y (Some next) P h e = h next refl

hash_of : (x y : PlainObject) (v : ℕ) (k : Option (Option ℕ)) → hashed x.hash v ≡ k → MatchOption x.hash (Unit {0}) IsHash → with_hash x k ≡ Some y → IsHash v
hash_of x y v None at h e = absurd (none-some y e)
hash_of x y v (Some k) at h e = (hash_taken x.hash k v h at).value_is

-- what was asked tells the values that the objects don't tell
print_of : (m : PlainMachine) (s : ThreadState) (a : NextEntry) (v : Value)
    → IsAskedOf m.program s a → fits a (Print v) ≡ true → IsValueOf (objects_total m.program) v
print_of m s (Calls (call.Print w)) v asked fit = subst (IsValueOf (objects_total m.program)) (same_is w v fit) asked.call
print_of m s (Calls c) v asked fit = absurd (false≢true fit)
print_of m s (Ends (ending.Trap f i)) v asked fit = absurd (false≢true fit)
print_of m s (Ends g) v asked fit = absurd (false≢true fit)
print_of m s _ v asked fit = absurd (false≢true fit)

put_of : (m : PlainMachine) (s : ThreadState) (a : NextEntry) (o k : ℕ) (v : Value)
    → IsAskedOf m.program s a → fits a (Put o k v) ≡ true → IsValueOf (objects_total m.program) v
put_of m s (Calls (call.Put p j w)) o k v asked fit =
    subst (IsValueOf (objects_total m.program)) (same_is w v (and_parts ((p == o) && (j == k)) (same_value w v) fit).1) asked.call.2
put_of m s (Calls c) o k v asked fit = absurd (false≢true fit)
put_of m s (Ends (ending.Trap f i)) o k v asked fit = absurd (false≢true fit)
put_of m s (Ends g) o k v asked fit = absurd (false≢true fit)
put_of m s _ o k v asked fit = absurd (false≢true fit)

-- a dump has the next number
dump_of : (m : PlainMachine) (s : ThreadState) (a : NextEntry) (n : ℕ) → IsAskedOf m.program s a → fits a (Dump n) ≡ true → (n ≡ s.dumps + 1) × (n ≤ 4)
dump_of m s (Calls (call.Dump k)) n asked fit = subst (λ (i : ℕ). (i ≡ s.dumps + 1) × (i ≤ 4)) (eqb-true k n fit) asked.call
dump_of m s (Calls c) n asked fit = absurd (false≢true fit)
dump_of m s (Ends (ending.Trap f i)) n asked fit = absurd (false≢true fit)
dump_of m s (Ends g) n asked fit = absurd (false≢true fit)
dump_of m s _ n asked fit = absurd (false≢true fit)

-- a new object has one of the program's numbers
new_of : (m : PlainMachine) (t : ℕ) (s : ThreadState) (a : NextEntry) (o c : ℕ) (made : List (List ℕ))
    → IsReached m → IsAskedOf m.program s a → fits a (New o c) ≡ true
    → made_after_entry m t (New o c) ≡ Some made → o < length m.objects
new_of m t s (Calls (call.New x k)) o c made h asked fit makes =
    let may = cond_some (may_create (numbering_of m.program) m.made t (o, c)) (grown m.made t c) made makes in
    let below = new_below m.program m.made t (o, c) asked.call.2 h.row_count (creating (numbering_of m.program) m.made t (o, c) may.0) in
    omega (arith, below, h.object_count)
new_of m t s (Calls k) o c made h asked fit makes = absurd (false≢true fit)
new_of m t s (Ends (ending.Trap f i)) o c made h asked fit makes = absurd (false≢true fit)
new_of m t s (Ends g) o c made h asked fit makes = absurd (false≢true fit)
new_of m t s _ o c made h asked fit makes = absurd (false≢true fit)

-- an entry that was asked for and that the objects took
entry_of : (m : PlainMachine) (t : ℕ) (s : ThreadState) (a : NextEntry) (e : Entry) (after : List PlainObject) (made : List (List ℕ))
    → IsReached m → IsAskedOf m.program s a → fits a e ≡ true
    → made_after_entry m t e ≡ Some made → take_entry m.objects t e ≡ Some after
    → IsEntryOf (length m.objects) (length m.threads) e
entry_of m t s a (Enter o path) after made h asked fit makes takes = within m.objects o t (Enter o path) after takes
entry_of m t s a (Exit o) after made h asked fit makes takes = within m.objects o t (Exit o) after takes
entry_of m t s a (Wait o) after made h asked fit makes takes = within m.objects o t (Wait o) after takes
entry_of m t s a (Resume o) after made h asked fit makes takes = within m.objects o t (Resume o) after takes
entry_of m t s a (NotifyAll o many) after made h asked fit makes takes = within m.objects o t (NotifyAll o many) after takes
entry_of m t s a (Notify o woken) after made h asked fit makes takes =
    let r = taken_at m.objects o t (Notify o woken) after takes in (
      within m.objects o t (Notify o woken) after takes,
      stepped r.x r.y (notify r.x.monitor t woken) (MatchOption woken (Unit {0}) (λ u. u < length m.threads))
          (λ next e. notify_in (length m.threads) t r.x.monitor next woken (h.monitors o r.x r.there) e) r.takes,
    )
entry_of m t s a (Get o k v) after made h asked fit makes takes =
    let r = taken_at m.objects o t (Get o k v) after takes in
    (within m.objects o t (Get o k v) after takes, of_machine m v h (get_step m t o o k v r.x r.y h r.there r.takes).value)
entry_of m t s a (Put o k v) after made h asked fit makes takes =
    (within m.objects o t (Put o k v) after takes, of_machine m v h (put_of m s a o k v asked fit))
entry_of m t s a (Hash o v drawn) after made h asked fit makes takes =
    let r = taken_at m.objects o t (Hash o v drawn) after takes in
    (within m.objects o t (Hash o v drawn) after takes, hash_of r.x r.y v (hashed r.x.hash v) refl (h.hashes o r.x r.there) r.takes)
entry_of m t s a (New o c) after made h asked fit makes takes = new_of m t s a o c made h asked fit makes
entry_of m t s a (Print v) after made h asked fit makes takes = of_machine m v h (print_of m s a v asked fit)
entry_of m t s a (Dump n) after made h asked fit makes takes = (dump_of m s a n asked fit).1
entry_of m t s a _ after made h asked fit makes takes = tt

pub taken_in_range : (m next : PlainMachine) (t : ℕ) (e : Entry) → IsReached m → take m t e ≡ Some next → IsEntryOf (length m.objects) (length m.threads) e
taken_in_range m next t e h takes =
    let k = taken m t e next takes in
    let asked = asked_of m.program k.s k.asked (thread_of m t k.s (record { reached = h; at = k.at })) k.asks in
    entry_of m t k.s k.asked e k.objects k.made_then h asked k.fit k.makes k.takes

-- an entry that is offered is one that is taken
next_in_range : (m : PlainMachine) (t : ℕ) (e : Entry) → IsReached m → offered m t ≡ offer.Next e → IsEntryOf (length m.objects) (length m.threads) e
next_in_range m t e h next = go (take m t e) refl
  where
    go : (r : Option PlainMachine) → take m t e ≡ r → IsEntryOf (length m.objects) (length m.threads) e
    go None at = absurd (false≢true (rw at at (offered_is_taken m t e h next)))
    go (Some after) at = taken_in_range m after t e h at

-- an offer that is no entry
abbrev IsRest : PlainMachine → Offer → Type 0
IsRest m (offer.Next e) = Unit {0}
IsRest m made = IsOfferOf (length m.objects) (length m.threads) made

of_program : (m : PlainMachine) (o : ℕ) → IsReached m → IsObject m.program o → o < length m.objects
of_program m o h l = omega (arith, h.object_count, l)

other_in : (m : PlainMachine) (o t u : ℕ) → IsReached m → other_owner (monitor_at m o) t ≡ Some u → u < length m.threads
other_in m o t u h e = go (is_thread (monitor_at m o).owner t) refl
  where
    go : (b : Bool) → is_thread (monitor_at m o).owner t ≡ b → u < length m.threads
    go true at = absurd (none-some u (rw at at e))
    go false at = owner_in_range m o u h (rw at at e)

unless_rest : (m : PlainMachine) (o t : ℕ) (owner : Option ℕ) (e : Entry) → IsReached m
    → o < length m.objects → other_owner (monitor_at m o) t ≡ owner → IsRest m (unless_owned o owner e)
unless_rest m o t None e h l at = tt
unless_rest m o t (Some u) e h l at = (l, other_in m o t u h at)

hash_rest : (m : PlainMachine) (o : ℕ) (hash : Option ℕ) → o < length m.objects → IsRest m (hash_offer o hash)
hash_rest m o None l = l
hash_rest m o (Some v) l = tt

resume_rest : (m : PlainMachine) (t o : ℕ) (listed : Bool) → IsReached m → o < length m.objects
    → IsRest m (if listed then offer.Waiting o else unless_owned o (other_owner (monitor_at m o) t) (Resume o))
resume_rest m t o true h l = l
resume_rest m t o false h l = unless_rest m o t (other_owner (monitor_at m o) t) (Resume o) h l refl

asked_rest : (m : PlainMachine) (t : ℕ) (s : ThreadState) (a : NextEntry) → IsReached m → IsAskedOf m.program s a → IsRest m (asked_offer m t (Some a))
asked_rest m t s (Calls (call.Enter o)) h asked = unless_rest m o t (other_owner (monitor_at m o) t) (Enter o StackFirst) h (of_program m o h asked.call.0) refl
asked_rest m t s (Calls (call.Hash x o)) h asked = hash_rest m o (object_at m o).hash (of_program m o h asked.call)
asked_rest m t s (Resumes o) h asked = resume_rest m t o (is_listed (monitor_at m o).waits t) h (of_program m o h asked.there)
asked_rest m t s _ h asked = tt

state_rest : (m : PlainMachine) (t : ℕ) (s : ThreadState) → IsMaker m t s → IsRest m (asked_offer m t (ask s))
state_rest m t s h = go (ask s) refl
  where
    go : (a : Option NextEntry) → ask s ≡ a → IsRest m (asked_offer m t a)
    go None at = tt
    go (Some a) at = asked_rest m t s a h.reached (asked_of m.program s a (thread_of m t s h) at)

offered_rest : (m : PlainMachine) (t : ℕ) → IsReached m → IsRest m (offered m t)
offered_rest m t h = go (slice_get m.threads t) refl
  where
    go : (state : Option ThreadState) → slice_get m.threads t ≡ state → IsRest m (asked_offer m t (option_and_then ask state))
    go None at = tt
    go (Some s) at = state_rest m t s (record { reached = h; at = at })

pub offer_in_range : (m : PlainMachine) (t : ℕ) → IsReached m → IsOfferOf (length m.objects) (length m.threads) (offered m t)
offer_in_range m t h = go (offered m t) refl (offered_rest m t h)
  where
    go : (made : Offer) → offered m t ≡ made → IsRest m made → IsOfferOf (length m.objects) (length m.threads) made
    go (offer.Next e) at rest = next_in_range m t e h at
    go (offer.NextHash o) at rest = rest
    go (offer.Blocked o u) at rest = rest
    go (offer.Waiting o) at rest = rest
    go offer.Ended at rest = rest

-- the number of a dump that is asked for, and of one that is taken
pub dump_in_range : (m : PlainMachine) (t number : ℕ) (s : ThreadState) → IsReached m
    → slice_get m.threads t ≡ Some s → ask s ≡ Some (Calls (call.Dump number)) → (number ≡ s.dumps + 1) × (number ≤ 4)
dump_in_range m t number s h at asks = (asked_of m.program s (Calls (call.Dump number)) (thread_of m t s (record { reached = h; at = at })) asks).call

pub dumped_in_range : (m next : PlainMachine) (t number : ℕ) (s : ThreadState) → IsReached m
    → slice_get m.threads t ≡ Some s → take m t (Dump number) ≡ Some next → (number ≡ s.dumps + 1) × (number ≤ 4)
dumped_in_range m next t number s h at takes =
    let k = taken m t (Dump number) next takes in
    let same : k.s ≡ s = same_Some k.s s (sym k.at ∙ at) in
    let asked = asked_of m.program k.s k.asked (thread_of m t k.s (record { reached = h; at = k.at })) k.asks in
    subst (λ (x : ThreadState). (number ≡ x.dumps + 1) × (number ≤ 4)) same (dump_of m k.s k.asked number asked k.fit)

-- what they refer to is there
pub local_is_there : (m : PlainMachine) (t x o : ℕ) (s : ThreadState) → IsReached m
    → slice_get m.threads t ≡ Some s → local s x ≡ Ref o → is_there (numbering_of m.program) m.made o ≡ true
local_is_there m t x o s h at is =
    let There : ℕ → Type 0 = IsThere m.program m.made in
    subst (RefersTo There) is (all_or (RefersTo There) s.locals x Nil tt (all_at (ThreadRefersTo There) m.threads t s h.references at).locals)

pub slot_is_there : (m : PlainMachine) (p k o : ℕ) → IsReached m → slot_at m p k ≡ Ref o → is_there (numbering_of m.program) m.made o ≡ true
slot_is_there m p k o h is =
    let There : ℕ → Type 0 = IsThere m.program m.made in
    subst (RefersTo There) is (all_or (RefersTo There) (object_at m p).slots k Nil tt
    (all_or (SlotsReferTo There) m.objects p (new_object 0) tt h.slot_references))
