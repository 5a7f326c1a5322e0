-- Each entry that a machine takes is one that it offers.
use Rattle.std.proofs.Common.{◌≡◌, ℕ, ◌≤◌, ◌^◌, nat_le, nat_lt, Bool, true, false, ◌&&◌, ◌==◌, List, [], ◌∷◌, length, slice_get}
use Rattle.std.proofs.Common.{slice_index_or, Option, Some, None, is_none, refl, sym, ap, ◌∙◌, subst, eqb-true, arith, leb-true}
use Rattle.std.proofs.lemmas.Bool.{false≢true, and_parts}
use Rattle.std.proofs.lemmas.Option.{none-some, cond_some}
use Rattle.std.proofs.lemmas.Bool.Decides.{nat_tests}
use Rattle.plain_monitor.specs.declared.entry.Value.{Value}
use Rattle.plain_monitor.specs.declared.entry.Value.TheVariants.{Nil}
use Rattle.plain_monitor.specs.declared.entry.Ending.{Ending}
use Rattle.plain_monitor.specs.declared.entry.Ending.TheVariants as ending
use Rattle.plain_monitor.specs.declared.entry.Entry.{Entry}
use Rattle.plain_monitor.specs.declared.entry.Entry.TheVariants.{Enter, Exit, Get, Put, Wait, Resume, Notify, NotifyAll}
use Rattle.plain_monitor.specs.declared.entry.Entry.TheVariants.{Hash, New, Print, Dump, Trap, Spent, Done}
use Rattle.plain_monitor.specs.Endings.{ending_entry}
use Rattle.plain_monitor.specs.Monitor.{PlainMonitor, only_if, owns, is_listed, count_of, resumed, calls, enter, resume, notify, notify_all}
use Rattle.plain_monitor.specs.Objects.{PlainObject, new_object, same_value, has_value, hashed, with_monitor, with_hash, take_entry}
use Rattle.plain_machine.specs.declared.monitor_call.MonitorCall.{MonitorCall}
use Rattle.plain_machine.specs.declared.monitor_call.MonitorCall.TheVariants as call
use Rattle.plain_machine.specs.declared.monitor_call.NextEntry.{NextEntry}
use Rattle.plain_machine.specs.declared.monitor_call.NextEntry.TheVariants.{Calls, Resumes, Leaves, Ends}
use Rattle.plain_machine.specs.Asking.{fits, is_call, is_ending, is_exit, is_resume, fault_number}
use Rattle.plain_monitor.specs.Made.{may_create}
use Rattle.object_program.specs.Program.{numbering_of}
use Rattle.plain_machine.specs.Machine.{PlainMachine, made_after_entry, take, object_at, monitor_at, slot_at, other_owner}
use Rattle.plain_machine.specs.Offering.{hash_offer, oldest, next_made, call_offer, asked_offer, offered}
use Rattle.plain_machine.proofs.Tallies.{counted_times}
use Rattle.plain_monitor.specs.Listed.{times_in, presence}
use Rattle.machine_laws.specs.Reached.{IsReached}
use Rattle.machine_laws.proofs.ReachedAsked.{IsTakenAt, taken, taken_at}
use Rattle.machine_laws.proofs.ReachedObjects.{same_is}
use Rattle.plain_monitor.specs.declared.entry.Fault.{Fault}
use Rattle.plain_monitor.specs.declared.entry.Fault.TheVariants.{IllegalMonitorState, Unguarded, NotRef, NotInt}
use Rattle.plain_monitor.specs.declared.entry.Fault.TheVariants.{Range, Overflow, TooDeep, TooManyDumps, TooMany}
use Rattle.every_outcome.specs.Offers.{bare, StandsFor}
use Rattle.every_outcome.proofs.Places.{read_at}

-- what a monitor's step was, where the object took it
monitor_found : (x y : PlainObject) (r : Option PlainMonitor) → with_monitor x r ≡ Some y → (n : PlainMonitor) × (r ≡ Some n)
monitor_found x y None h = absurd (none-some y h)
monitor_found x y (Some n) h = (n, refl)

only_true : {A : Type 0} (b : Bool) (x y : A) → only_if b x ≡ Some y → b ≡ true
only_true true x y h = refl
only_true false x y h = absurd (none-some y h)

-- a monitor that is entered has no other owner, nor one that is resumed
enter_free : (m n : PlainMonitor) (t : ℕ) (owner : Option ℕ) → m.owner ≡ owner → enter m t ≡ Some n → other_owner m t ≡ None
enter_free m n t None at h = rw at refl
enter_free m n t (Some u) at h = go (u == t) refl
  where
    go : (b : Bool) → (u == t) ≡ b → other_owner m t ≡ None
    go true e = rw (at, e) refl
    go false e = absurd (none-some n (rw (at, e) at h))

is_free : (m n : PlainMonitor) (t : ℕ) (owner : Option ℕ) → m.owner ≡ owner → is_none m.owner ≡ true → other_owner m t ≡ None
is_free m n t None at h = rw at refl
is_free m n t (Some u) at h = absurd (false≢true (rw at at h))

resumed_parts : (m n : PlainMonitor) (t : ℕ) (c : Option ℕ) → count_of m.called t ≡ c → resumed m t c ≡ Some n
    → (is_none m.owner ≡ true) × (1 ≤ times_in m.called t)
resumed_parts m n t None at h = absurd (none-some n h)
resumed_parts m n t (Some c) at h = (only_true (is_none m.owner) _ n h, counted_times m.called t c at)

calls_oldest : (m n : PlainMonitor) (ws : List (ℕ × ℕ)) (woken : Option ℕ) → calls m ws woken ≡ Some n → oldest ws ≡ woken
calls_oldest m n [] None h = refl
calls_oldest m n [] (Some u) h = absurd (none-some n h)
calls_oldest m n (p ∷ ps) None h = absurd (none-some n h)
calls_oldest m n (p ∷ ps) (Some u) h = ap Some (eqb-true p.0 u (only_true (p.0 == u) _ n h))

notify_oldest : (m n : PlainMonitor) (t : ℕ) (woken : Option ℕ) (b : Bool) → owns m t ≡ b → notify m t woken ≡ Some n → oldest m.waits ≡ woken
notify_oldest m n t woken true own h = calls_oldest m n m.waits woken (rw own at h)
notify_oldest m n t woken false own h = absurd (none-some n (rw own at h))

slot_is : (slots : List Value) (k : ℕ) (v : Value) (r : Option Value) → slice_get slots k ≡ r → has_value r v ≡ true → slice_index_or slots k Nil ≡ v
slot_is slots k v None at h = absurd (false≢true h)
slot_is slots k v (Some w) at h = read_at slots k Nil w at ∙ same_is w v h

hash_is : (x y : PlainObject) (o v : ℕ) (drawn hash : Option ℕ) → x.hash ≡ hash → with_hash x (hashed hash v) ≡ Some y
    → StandsFor (hash_offer o hash) (Hash o v drawn)
hash_is x y o v drawn None at h = go (nat_le 1 v && nat_lt v (2 ^ 31)) refl
  where
    go : (b : Bool) → (nat_le 1 v && nat_lt v (2 ^ 31)) ≡ b → StandsFor (hash_offer o None) (Hash o v drawn)
    go true e = let p = and_parts (nat_le 1 v) (nat_lt v (2 ^ 31)) e in (refl, leb-true 1 v p.0, grind (arith, nat_tests))
    go false e = absurd (none-some y (rw e at h))
hash_is x y o v drawn (Some w) at h = go (w == v) refl
  where
    go : (b : Bool) → (w == v) ≡ b → StandsFor (hash_offer o (Some w)) (Hash o v drawn)
    go true e = ap (λ (i : ℕ). Hash o i None) (eqb-true w v e)
    go false e = absurd (none-some y (rw e at h))

-- the object that took an entry is the one at its place
object_is : (m : PlainMachine) (o t : ℕ) (e : Entry) (objects : List PlainObject) (k : IsTakenAt m.objects o t e objects) → object_at m o ≡ k.x
object_is m o t e objects k = read_at m.objects o (new_object 0) k.x k.there

-- a new object has its maker's next number
new_is : (m : PlainMachine) (t o c : ℕ) (made : List (List ℕ)) → made_after_entry m t (New o c) ≡ Some made → o ≡ next_made m t
new_is m t o c made makes =
    let may = (cond_some (may_create (numbering_of m.program) m.made t (o, c)) _ made makes).0 in
    eqb-true o (next_made m t) (and_parts _ _ may).1

-- what is offered to who asks this, where the entry fits it and the objects take it
call_is : (m : PlainMachine) (t : ℕ) (c : MonitorCall) (e : Entry) (made : List (List ℕ)) (objects : List PlainObject) → is_call c e ≡ true
    → made_after_entry m t e ≡ Some made → take_entry m.objects t e ≡ Some objects → StandsFor (call_offer m t c) e
call_is m t (call.Enter o) (Enter q p) made objects fit makes takes =
    let k = taken_at m.objects q t (Enter q p) objects takes in
    let n = monitor_found k.x k.y (enter k.x.monitor t) k.takes in
    let free : other_owner (monitor_at m q) t ≡ None =
    ap (λ (x : PlainObject). other_owner x.monitor t) (object_is m q t (Enter q p) objects k) ∙ enter_free k.x.monitor n.0 t k.x.monitor.owner refl n.1 in
    rw (eqb-true o q fit, free) refl
call_is m t (call.Exit o) (Exit q) made objects fit makes takes = ap Exit (eqb-true o q fit)
call_is m t (call.Wait o) (Wait q) made objects fit makes takes = ap Wait (eqb-true o q fit)
call_is m t (call.Notify o) (Notify q w) made objects fit makes takes =
    let k = taken_at m.objects q t (Notify q w) objects takes in
    let n = monitor_found k.x k.y (notify k.x.monitor t w) k.takes in
    let is : oldest (monitor_at m q).waits ≡ w =
    ap (λ (x : PlainObject). oldest x.monitor.waits) (object_is m q t (Notify q w) objects k)
    ∙ notify_oldest k.x.monitor n.0 t w (owns k.x.monitor t) refl n.1 in
    rw (eqb-true o q fit) (ap (Notify q) is)
call_is m t (call.NotifyAll o) (NotifyAll q many) made objects fit makes takes =
    let k = taken_at m.objects q t (NotifyAll q many) objects takes in
    let n = monitor_found k.x k.y (notify_all k.x.monitor t many) k.takes in
    let same : (length k.x.monitor.waits == many) ≡ true = (and_parts (owns k.x.monitor t) _ (only_true _ _ n.0 n.1)).1 in
    let is : length (monitor_at m q).waits ≡ many =
    ap (λ (x : PlainObject). length x.monitor.waits) (object_is m q t (NotifyAll q many) objects k) ∙ eqb-true _ _ same in
    rw (eqb-true o q fit) (ap (NotifyAll q) is)
call_is m t (call.Get x o s) (Get q r v) made objects fit makes takes =
    let k = taken_at m.objects q t (Get q r v) objects takes in
    let has : has_value (slice_get k.x.slots r) v ≡ true = (and_parts (owns k.x.monitor t) _ (only_true _ _ k.y k.takes)).1 in
    let both = and_parts (o == q) (s == r) fit in
    let is : slot_at m q r ≡ v =
    ap (λ (x : PlainObject). slice_index_or x.slots r Nil) (object_is m q t (Get q r v) objects k)
    ∙ slot_is k.x.slots r v (slice_get k.x.slots r) refl has in
    rw (eqb-true o q both.0, eqb-true s r both.1) (ap (Get q r) is)
call_is m t (call.Put o s v) (Put q r w) made objects fit makes takes =
    let both = and_parts ((o == q) && (s == r)) (same_value v w) fit in
    let places = and_parts (o == q) (s == r) both.0 in
    rw (eqb-true o q places.0, eqb-true s r places.1) (ap (Put q r) (same_is v w both.1))
call_is m t (call.Hash x o) (Hash q v drawn) made objects fit makes takes =
    let k = taken_at m.objects q t (Hash q v drawn) objects takes in
    let is = object_is m q t (Hash q v drawn) objects k in
    let here : StandsFor (hash_offer q k.x.hash) (Hash q v drawn) = hash_is k.x k.y q v drawn k.x.hash refl k.takes in
    rw (eqb-true o q fit) (subst (λ (z : PlainObject). StandsFor (hash_offer q z.hash) (Hash q v drawn)) (sym is) here)
call_is m t (call.New x c) (New o k) made objects fit makes takes = rw (eqb-true c k fit) (ap (λ (i : ℕ). New i k) (sym (new_is m t o k made makes)))
call_is m t (call.Print v) (Print w) made objects fit makes takes = ap Print (same_is v w fit)
call_is m t (call.Dump n) (Dump k) made objects fit makes takes = ap Dump (eqb-true n k fit)
call_is m t c e made objects fit makes takes = absurd (false≢true fit)

listed_times : (ps : List (ℕ × ℕ)) (t : ℕ) → is_listed ps t ≡ true → 1 ≤ times_in ps t
listed_times [] t h = absurd (false≢true h)
listed_times (p ∷ ps) t h = by (p.0 == t) refl (λ q. listed_times ps t q)
  where
    by : (b : Bool) → (p.0 == t) ≡ b → (is_listed ps t ≡ true → 1 ≤ times_in ps t) → 1 ≤ times_in (p ∷ ps) t
    by true q ih = rw q (omega arith)
    by false q ih = let some : 1 ≤ times_in ps t = ih (rw q at h) in rw q (omega (arith, some))

-- who was called doesn't wait
not_waiting : (n : PlainMonitor) (t : ℕ) (b : Bool) → is_listed n.waits t ≡ b → 1 ≤ times_in n.called t → presence n t ≤ 1 → b ≡ false
not_waiting n t false e some once = refl
not_waiting n t true e some once = absurd (omega (arith, some, once, listed_times n.waits t e))

resume_is : (m : PlainMachine) (t o : ℕ) (e : Entry) (objects : List PlainObject) → IsReached m → is_resume o e ≡ true
    → take_entry m.objects t e ≡ Some objects → StandsFor (asked_offer m t (Some (Resumes o))) e
resume_is m t o (Resume q) objects h fit takes =
    let k = taken_at m.objects q t (Resume q) objects takes in
    let n = monitor_found k.x k.y (resume k.x.monitor t) k.takes in
    let is = object_is m q t (Resume q) objects k in
    let parts = resumed_parts k.x.monitor n.0 t (count_of k.x.monitor.called t) refl n.1 in
    let free : other_owner (monitor_at m q) t ≡ None =
    ap (λ (x : PlainObject). other_owner x.monitor t) is ∙ is_free k.x.monitor n.0 t k.x.monitor.owner refl parts.0 in
    let once = (h.monitors q k.x k.there).once t in
    let unwaiting : is_listed k.x.monitor.waits t ≡ false = not_waiting k.x.monitor t (is_listed k.x.monitor.waits t) refl parts.1 once in
    let here : is_listed (monitor_at m q).waits t ≡ false = ap (λ (x : PlainObject). is_listed x.monitor.waits t) is ∙ unwaiting in
    rw (eqb-true o q fit, here, free) refl
resume_is m t o e objects h fit takes = absurd (false≢true fit)

-- a fault by its number
abbrev fault_with : ℕ → Fault
fault_with n = slice_index_or (IllegalMonitorState ∷ Unguarded ∷ NotRef ∷ NotInt ∷ Range ∷ Overflow ∷ TooDeep ∷ TooManyDumps ∷ []) n TooMany

its_fault : (f : Fault) → fault_with (fault_number f) ≡ f
its_fault IllegalMonitorState = refl
its_fault _ = refl

same_fault : (f g : Fault) → (fault_number f == fault_number g) ≡ true → g ≡ f
same_fault f g h = sym (its_fault g) ∙ ap fault_with (sym (eqb-true (fault_number f) (fault_number g) h)) ∙ its_fault f

ending_is : (g : Ending) (e : Entry) → is_ending g e ≡ true → ending_entry g ≡ bare e
ending_is (ending.Trap f i) (Trap k j) h =
    let both = and_parts _ _ h in
    ap (λ (x : _). Trap x i) (sym (same_fault f k both.0)) ∙ ap (Trap k) (eqb-true i j both.1)
ending_is ending.Spent Spent h = refl
ending_is ending.Done Done h = refl
ending_is g e h = absurd (false≢true h)

leave_is : (m : PlainMachine) (t o : ℕ) (e : Entry) → is_exit o e ≡ true → StandsFor (asked_offer m t (Some (Leaves o))) e
leave_is m t o (Exit q) h = ap Exit (eqb-true o q h)
leave_is m t o e h = absurd (false≢true h)

asked_is : (m : PlainMachine) (t : ℕ) (a : NextEntry) (e : Entry) (made : List (List ℕ)) (objects : List PlainObject) → IsReached m → fits a e ≡ true
    → made_after_entry m t e ≡ Some made → take_entry m.objects t e ≡ Some objects → StandsFor (asked_offer m t (Some a)) e
asked_is m t (Calls c) e made objects h fit makes takes = call_is m t c e made objects fit makes takes
asked_is m t (Resumes o) e made objects h fit makes takes = resume_is m t o e objects h fit takes
asked_is m t (Leaves o) e made objects h fit makes takes = leave_is m t o e fit
asked_is m t (Ends g) e made objects h fit makes takes = ending_is g e fit

pub taken_is_offered : (m n : PlainMachine) (t : ℕ) (e : Entry) → IsReached m → take m t e ≡ Some n → StandsFor (offered m t) e
taken_is_offered m n t e h takes =
    let k = taken m t e n takes in
    rw (k.at, k.asks) (asked_is m t k.asked e k.made_then k.objects h k.fit k.makes k.takes)
