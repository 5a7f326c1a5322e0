-- What an entry that a reached machine takes leaves of what threads have made, and of what threads and slots refer to.
use Rattle.std.proofs.Common.{◌≡◌, ◌≢◌, ℕ, ◌+◌, ◌*◌, ◌<◌, ◌&&◌, ◌||◌, nat_lt, true, if◌then◌else◌, List, [], ◌∷◌, ◌++◌, length}
use Rattle.std.proofs.Common.{slice_get, slice_set, Option, Some, None, refl, sym, ap, ◌∙◌, subst, arith, length-append, length-set}
use Rattle.std.specs.List.{AllByRecursion}
use Rattle.std.proofs.lemmas.Bool.{and_parts}
use Rattle.std.proofs.lemmas.Bool.Decides.{nat_tests}
use Rattle.std.proofs.lemmas.Option.{none-some, same_Some, cond_some}
use Rattle.plain_monitor.specs.Limits.{most_made}
use Rattle.plain_monitor.specs.declared.entry.Value.{Value}
use Rattle.plain_monitor.specs.declared.entry.Value.TheVariants.{Nil, Int, Ref}
use Rattle.plain_monitor.specs.declared.entry.Entry.{Entry}
use Rattle.plain_monitor.specs.declared.entry.Entry.TheVariants.{Enter, Exit, Get, Put, Wait, Resume, Notify, NotifyAll}
use Rattle.plain_monitor.specs.declared.entry.Entry.TheVariants.{Hash, New, Print, Dump}
use Rattle.plain_monitor.specs.Made.{Numbering, first_made, maker_of, place_of, made_by, creates, needs, refers, may_create, take_created, take_made}
use Rattle.plain_monitor.specs.Monitor.{PlainMonitor, owns, enter, exit, wait, resume, notify, notify_all}
use Rattle.plain_monitor.specs.Objects.{PlainObject, named, has_value, hashed, with_monitor, with_hash, take_at, take_named, take_entry}
use Rattle.plain_monitor.proofs.Lists.{all_at, all_or, all_set, all_push, all_weaker}
use Rattle.plain_history.proofs.MadeSteps.{all_there, grown, row_same, row_other, MayCreate, creating}
use Rattle.plain_history.proofs.MadeHistories.{there_stays, made_new}
use Rattle.object_program.specs.Program.{ProgramText, declared_total, has_new, made_total, objects_total, numbering_of}
use Rattle.plain_machine.specs.declared.monitor_call.MonitorCall.{MonitorCall}
use Rattle.plain_machine.specs.declared.monitor_call.MonitorCall.TheVariants as call
use Rattle.plain_machine.specs.declared.monitor_call.Mode.{Mode}
use Rattle.plain_machine.specs.declared.monitor_call.Mode.TheVariants.{Calling, Waiting, Unwinding, Ended}
use Rattle.plain_machine.specs.Thread.{ThreadState}
use Rattle.plain_machine.specs.Asking.{after_entry}
use Rattle.plain_machine.specs.Machine.{PlainMachine, code_of}
use Rattle.plain_machine.proofs.NeededObjects.{first_is_total}
use Rattle.machine_laws.specs.References.{IsThere, RefersTo, CallRefersTo, ModeRefersTo, ThreadRefersTo, SlotsReferTo}
use Rattle.machine_laws.specs.Reached.{AtEach, IsRow, HasMade, IsReached}
use Rattle.machine_laws.proofs.ReachedLists.{each_set}
use Rattle.machine_laws.proofs.ReachedRunning.{code_runs}
use Rattle.machine_laws.proofs.ReachedAsked.{IsTaken, taken_at}
use Rattle.machine_laws.proofs.ReachedObjects.{has_of}
use Rattle.machine_laws.proofs.AskedReferences.{BringsTo, count_made, ask_refers, asked_needs, entry_after, entry_made}

-- THE REGISTER after an entry that makes an object, or none
abbrev pub Grows : Numbering → List (List ℕ) → ℕ → Option (ℕ × ℕ) → List (List ℕ) → Type 0
Grows n made t None made_then = made ≡ made_then
Grows n made t (Some p) made_then = MayCreate n made t p × (grown made t p.1 ≡ made_then)

grows : (n : Numbering) (made made_then : List (List ℕ)) (t : ℕ) (e : Entry) (q : Option (ℕ × ℕ))
    → take_created n made t e q ≡ Some made_then → Grows n made t q made_then
grows n made made_then t e None h = (cond_some (all_there n made (needs e)) made made_then h).1
grows n made made_then t e (Some p) h = let a = cond_some (may_create n made t p) (grown made t p.1) made_then h in (creating n made t p a.0, a.1)

as_many : (n : Numbering) (made made_then : List (List ℕ)) (t : ℕ) (q : Option (ℕ × ℕ)) → Grows n made t q made_then → length made_then ≡ length made
as_many n made made_then t None g = ap (λ (x : List (List ℕ)). length x) (sym g)
as_many n made made_then t (Some p) g = ap (λ (x : List (List ℕ)). length x) (sym g.1) ∙ simp length-set

row_fits : (p : ProgramText) (row : List ℕ) (c : ℕ) → IsRow p row → c < length p.classes → length row < most_made → IsRow p (row ++ c ∷ [])
row_fits p row c h class room = (all_push (λ k. k < length p.classes) row c h.0 class, omega (arith, length-append row (c ∷ []), room))

rows_fit : (p : ProgramText) (made made_then : List (List ℕ)) (t : ℕ) (q : Option (ℕ × ℕ))
    → AllByRecursion (IsRow p) made → Grows (numbering_of p) made t q made_then → AllByRecursion (IsRow p) made_then
rows_fit p made made_then t None all g = subst (AllByRecursion (IsRow p)) g all
rows_fit p made made_then t (Some q) all g =
    let row : IsRow p (made_by made t) = all_or (IsRow p) made t [] (tt, omega arith) all in
    subst (AllByRecursion (IsRow p)) g.1 (all_set (IsRow p) made t (made_by made t ++ q.1 ∷ []) (row_fits p (made_by made t) q.1 row g.0.class g.0.room) all)

own_row : (n : Numbering) (made made_then : List (List ℕ)) (t : ℕ) (q : Option (ℕ × ℕ))
    → Grows n made t q made_then → length (made_by made_then t) ≡ length (made_by made t) + count_made q
own_row n made made_then t None g = let same = ap (λ (x : List (List ℕ)). length (made_by x t)) g in omega (arith, same)
own_row n made made_then t (Some p) g = ap (λ (x : List (List ℕ)). length (made_by x t)) (sym g.1) ∙ row_same made t p.1 g.0.thread

other_row : (n : Numbering) (made made_then : List (List ℕ)) (t u : ℕ) (q : Option (ℕ × ℕ))
    → Grows n made t q made_then → u ≢ t → made_by made_then u ≡ made_by made u
other_row n made made_then t u None g d = ap (λ (x : List (List ℕ)). made_by x u) (sym g)
other_row n made made_then t u (Some p) g d = ap (λ (x : List (List ℕ)). made_by x u) (sym g.1) ∙ row_other made t p.1 u d

-- WHAT REFERS TO THESE refers to those, where these are among those
module _ (These Those : ℕ → Type 0) (among : (o : ℕ) → These o → Those o) where
  value_among : (v : Value) → RefersTo These v → RefersTo Those v
  value_among Nil h = tt
  value_among (Int z) h = tt
  value_among (Ref o) h = among o h

  call_among : (c : MonitorCall) → CallRefersTo These c → CallRefersTo Those c
  call_among (call.Enter o) h = among o h
  call_among (call.Exit o) h = among o h
  call_among (call.Wait o) h = among o h
  call_among (call.Notify o) h = among o h
  call_among (call.NotifyAll o) h = among o h
  call_among (call.Get x o k) h = among o h
  call_among (call.Put o k v) h = (among o h.0, value_among v h.1)
  call_among (call.Hash x o) h = among o h
  call_among (call.New x c) h = tt
  call_among (call.Print v) h = value_among v h
  call_among (call.Dump k) h = tt

  mode_among : (mode : Mode) → ModeRefersTo These mode → ModeRefersTo Those mode
  mode_among (Calling c) h = call_among c h
  mode_among (Waiting o) h = among o h
  mode_among (Unwinding e) h = tt
  mode_among (Ended e) h = tt

  pub thread_among : (s : ThreadState) → ThreadRefersTo These s → ThreadRefersTo Those s
  thread_among s h = record {
    locals = all_weaker (RefersTo These) (RefersTo Those) value_among s.locals h.locals;
    holds = λ o held. among o (h.holds o held);
    mode = mode_among s.mode h.mode;
  }

  slots_among : (x : PlainObject) → SlotsReferTo These x → SlotsReferTo Those x
  slots_among x h = all_weaker (RefersTo These) (RefersTo Those) value_among x.slots h

-- THE SLOTS OF OBJECTS after an entry whose value refers to these
module _ (These : ℕ → Type 0) where
  monitor_slots : (x y : PlainObject) (r : Option PlainMonitor) → SlotsReferTo These x → with_monitor x r ≡ Some y → SlotsReferTo These y
  monitor_slots x y None h e = absurd (none-some y e)
  monitor_slots x y (Some n) h e = subst (SlotsReferTo These) (same_Some (record x { monitor = n }) y e) h

  hash_slots : (x y : PlainObject) (r : Option (Option ℕ)) → SlotsReferTo These x → with_hash x r ≡ Some y → SlotsReferTo These y
  hash_slots x y None h e = absurd (none-some y e)
  hash_slots x y (Some n) h e = subst (SlotsReferTo These) (same_Some (record x { hash = n }) y e) h

  same_slots : (x y : PlainObject) → SlotsReferTo These x → Some x ≡ Some y → SlotsReferTo These y
  same_slots x y h e = subst (SlotsReferTo These) (same_Some x y e) h

  handed : (v : Value) → AllByRecursion These (refers v) → RefersTo These v
  handed Nil h = tt
  handed (Int z) h = tt
  handed (Ref o) h = h.0

  slots_after : (x y : PlainObject) (t : ℕ) (e : Entry) → SlotsReferTo These x → AllByRecursion These (needs e) → take_at x t e ≡ Some y → SlotsReferTo These y
  slots_after x y t (Enter o path) h all e = monitor_slots x y (enter x.monitor t) h e
  slots_after x y t (Exit o) h all e = monitor_slots x y (exit x.monitor t) h e
  slots_after x y t (Wait o) h all e = monitor_slots x y (wait x.monitor t) h e
  slots_after x y t (Resume o) h all e = monitor_slots x y (resume x.monitor t) h e
  slots_after x y t (Notify o woken) h all e = monitor_slots x y (notify x.monitor t woken) h e
  slots_after x y t (NotifyAll o many) h all e = monitor_slots x y (notify_all x.monitor t many) h e
  slots_after x y t (Get o k v) h all e =
      let r = cond_some (owns x.monitor t && has_value (slice_get x.slots k) v) x y e in subst (SlotsReferTo These) r.1 h
  slots_after x y t (Put o k v) h all e =
      let r = cond_some (owns x.monitor t && nat_lt k (length x.slots)) (record x { slots = slice_set x.slots k v }) y e in
      subst (SlotsReferTo These) r.1 (all_set (RefersTo These) x.slots k v (handed v all.1) h)
  slots_after x y t (Hash o v drawn) h all e = hash_slots x y (hashed x.hash v) h e
  slots_after x y t _ h all e = same_slots x y h e

  named_after : (objects after : List PlainObject) (t : ℕ) (e : Entry) (o : Option ℕ)
      → AllByRecursion (SlotsReferTo These) objects → AllByRecursion These (needs e)
      → take_named objects t e o ≡ Some after → AllByRecursion (SlotsReferTo These) after
  named_after objects after t e None h all takes = subst (AllByRecursion (SlotsReferTo These)) (same_Some objects after takes) h
  named_after objects after t e (Some o) h all takes =
      let r = taken_at objects o t e after takes in
      subst (AllByRecursion (SlotsReferTo These)) r.is
      (all_set (SlotsReferTo These) objects o r.y (slots_after r.x r.y t e (all_at (SlotsReferTo These) objects o r.x h r.there) all r.takes) h)

  -- what a slot gives
  got_refers : (objects after : List PlainObject) (t o k : ℕ) (v : Value) → AllByRecursion (SlotsReferTo These) objects
      → take_named objects t (Get o k v) (Some o) ≡ Some after → RefersTo These v
  got_refers objects after t o k v h takes =
      let r = taken_at objects o t (Get o k v) after takes in
      let slots = all_at (SlotsReferTo These) objects o r.x h r.there in
      let both = and_parts (owns r.x.monitor t) (has_value (slice_get r.x.slots k) v)
      (cond_some (owns r.x.monitor t && has_value (slice_get r.x.slots k) v) r.x r.y r.takes).0 in
      has_of (RefersTo These) (slice_get r.x.slots k) v (λ w at. all_at (RefersTo These) r.x.slots k w slots at) both.1

-- A declared object is there, and a new one has one of the program's numbers
pub declared_there : (p : ProgramText) (made : List (List ℕ)) (o : ℕ) → o < declared_total p → IsThere p made o
declared_there p made o l =
    let total : first_made (numbering_of p) ≡ declared_total p = first_is_total p.objects in
    let below : nat_lt o (first_made (numbering_of p)) ≡ true = grind (arith, nat_tests, l, total) in
    ap (λ b. b || nat_lt (place_of (numbering_of p) o) (length (made_by made (maker_of (numbering_of p) o)))) below

pub new_below : (p : ProgramText) (made : List (List ℕ)) (t : ℕ) (q : ℕ × ℕ) → has_new p.threads ≡ true
    → length made ≡ length p.threads → MayCreate (numbering_of p) made t q → q.0 < objects_total p
new_below p made t q new count may =
    let total : first_made (numbering_of p) ≡ declared_total p = first_is_total p.objects in
    let many : made_total p ≡ most_made * length p.threads = ap (λ b. if b then most_made * length p.threads else 0) new in
    omega (arith, total, many, count, may.number, may.thread, may.room)

-- what is made after the entry, and what is referred to then
pub record IsMadeAfter (p : ProgramText) (objects : List PlainObject) (register : List (List ℕ)) (threads : List ThreadState) : Type 0 where
  pub row_count : length register ≡ length p.threads
  pub rows : AllByRecursion (IsRow p) register
  pub made : AtEach (HasMade register) threads
  pub references : AllByRecursion (ThreadRefersTo (IsThere p register)) threads
  pub slot_references : AllByRecursion (SlotsReferTo (IsThere p register)) objects

module _ (m next : PlainMachine) (t : ℕ) (e : Entry) (h : IsReached m) (k : IsTaken m t e next) where
  abbrev There : ℕ → Type 0
  There = IsThere m.program k.made_then

  among : (o : ℕ) → IsThere m.program m.made o → There o
  among o there = there_stays (numbering_of m.program) m.made k.made_then t e o k.makes there

  growth : Grows (numbering_of m.program) m.made t (creates e) k.made_then
  growth = grows (numbering_of m.program) m.made k.made_then t e (creates e) k.makes

  brings : (f : Entry) → e ≡ f → BringsTo There f
  brings (Get o i v) is =
      let takes : take_named m.objects t (Get o i v) (Some o) ≡ Some k.objects = subst (λ (x : Entry). take_entry m.objects t x ≡ Some k.objects) is k.takes in
      value_among (IsThere m.program m.made) There among v (got_refers (IsThere m.program m.made) m.objects k.objects t o i v h.slot_references takes)
  brings (New o c) is =
      let takes : take_made (numbering_of m.program) m.made t (New o c) ≡ Some k.made_then =
      subst (λ (x : Entry). take_made (numbering_of m.program) m.made t x ≡ Some k.made_then) is k.makes in
      (made_new (numbering_of m.program) m.made k.made_then t (New o c) o takes refl).is
  brings f is = tt

  before : ThreadRefersTo There k.s
  before = thread_among (IsThere m.program m.made) There among k.s (all_at (ThreadRefersTo (IsThere m.program m.made)) m.threads t k.s h.references k.at)

  abbrev after : ThreadState
  after = after_entry m.program (code_of m.program t) k.s k.asked e

  after_refers : ThreadRefersTo There after
  after_refers =
      entry_after There m.program (code_of m.program t) (declared_there m.program k.made_then) h.program (code_runs m.program t h.program) k.s k.asked e before
      (ask_refers There k.s k.asked before k.asks) (brings e refl)

  own_count : HasMade k.made_then t after
  own_count =
      let thread = entry_made m.program (code_of m.program t) h.program (code_runs m.program t h.program) k.s k.asked e k.fit in
      let row = own_row (numbering_of m.program) m.made k.made_then t (creates e) growth in
      omega (arith, thread, row, h.made t k.s k.at)

  pub all_made_after_entry : IsMadeAfter m.program k.objects k.made_then (slice_set m.threads t after)
  all_made_after_entry = record {
    row_count = as_many (numbering_of m.program) m.made k.made_then t (creates e) growth ∙ h.row_count;
    rows = rows_fit m.program m.made k.made_then t (creates e) h.rows growth;
    made =
        each_set (HasMade k.made_then) m.threads t k.s after k.at own_count
        (λ u x other at. h.made u x at
        ∙ ap (λ (r : List ℕ). length r) (sym (other_row (numbering_of m.program) m.made k.made_then t u (creates e) growth other)));
    references =
        all_set (ThreadRefersTo There) m.threads t after after_refers
        (all_weaker (ThreadRefersTo (IsThere m.program m.made)) (ThreadRefersTo There)
        (thread_among (IsThere m.program m.made) There among) m.threads h.references);
    slot_references =
        named_after There m.objects k.objects t e (named e)
        (all_weaker (SlotsReferTo (IsThere m.program m.made)) (SlotsReferTo There)
        (slots_among (IsThere m.program m.made) There among) m.objects h.slot_references)
        (asked_needs There k.asked e (ask_refers There k.s k.asked before k.asks) k.fit) k.takes;
  }
