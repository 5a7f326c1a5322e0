-- Of two readings of a line the machine takes at most one.
use Rattle.std.proofs.Common.{◌≡◌, ℕ, ◌==◌, ◌&&◌, Bool, true, false, List, [], ◌∷◌, refl, sym, ◌∙◌, slice_get, set, Option, Some, None}
use Rattle.std.specs.Prelude.{option_map, option_and_then}
use Rattle.std.proofs.lemmas.Bool.{and_parts}
use Rattle.plain_monitor.specs.declared.entry.Value.{Value}
use Rattle.plain_monitor.specs.declared.entry.Value.TheVariants.{Nil, Int, Ref}
use Rattle.plain_monitor.specs.declared.entry.Entry.{Entry}
use Rattle.plain_monitor.specs.declared.entry.Entry.TheVariants.{Get, Put, Notify, Print}
use Rattle.plain_monitor.specs.declared.entry.Ending.{Ending}
use Rattle.plain_monitor.specs.declared.entry.Ending.TheVariants as ending
use Rattle.plain_monitor.specs.Monitor.{PlainMonitor, only_if, owns, calls}
use Rattle.plain_monitor.specs.Objects.{PlainObject, same_value, has_value, take_at, take_entry}
use Rattle.object_program.specs.declared.program.Code.{Code}
use Rattle.object_program.specs.Program.{ProgramText}
use Rattle.plain_machine.specs.declared.monitor_call.MonitorCall.{MonitorCall}
use Rattle.plain_machine.specs.declared.monitor_call.MonitorCall.TheVariants as call
use Rattle.plain_machine.specs.declared.monitor_call.NextEntry.{NextEntry}
use Rattle.plain_machine.specs.declared.monitor_call.NextEntry.TheVariants.{Calls, Resumes, Leaves, Ends}
use Rattle.plain_machine.specs.Thread.{ThreadState}
use Rattle.plain_machine.specs.Asking.{ask, fits, is_call, thread_after, after_entry}
use Rattle.plain_machine.specs.Machine.{PlainMachine, moved, take, code_of, made_after_entry}
use Rattle.bias_check.proofs.Options.{where_true}
use Rattle.bias_check.proofs.TellsRead.{IsRival}

-- a slot has not both values
not_both : (slot : Option Value) (n : ℕ) → has_value slot (Ref n) ≡ true → has_value slot Nil ≡ false
not_both (Some Nil) n h = absurd (cc h)
not_both _ n h = refl

-- where the objects refuse an entry, so does the machine
refused_by_objects : (m : PlainMachine) (t : ℕ) (e : Entry) (s : Option ThreadState) → take_entry m.objects t e ≡ None
    → option_and_then (λ s. moved m t (thread_after m.program (code_of m.program t) s e) (made_after_entry m t e) (take_entry m.objects t e)) s ≡ None
refused_by_objects m t e None h = refl
refused_by_objects m t e (Some s) h = rw h (unmoved (thread_after m.program (code_of m.program t) s e) (made_after_entry m t e))
  where
    unmoved : (after : Option ThreadState) (made : Option (List (List ℕ))) → moved m t after made None ≡ None
    unmoved None made = refl
    unmoved (Some s) None = refl
    unmoved (Some s) (Some made) = refl

-- where the objects' answer is another, so is the machine's
objects_took : (m n : PlainMachine) (t : ℕ) (e : Entry) (objects : Option (List PlainObject)) (s : Option ThreadState) → take_entry m.objects t e ≡ objects
    → option_and_then (λ s. moved m t (thread_after m.program (code_of m.program t) s e) (made_after_entry m t e) (take_entry m.objects t e)) s
    ≡ Some n → (o : List PlainObject) × (objects ≡ Some o)
objects_took m n t e (Some o) s h k = (o, refl)
objects_took m n t e None s h k = absurd (cc (sym (refused_by_objects m t e s h) ∙ k))

get_refused_at : (x : PlainObject) (t o k v : ℕ) (b c : Bool) (objects : List PlainObject) (r : List PlainObject)
    → owns x.monitor t ≡ b → has_value (slice_get x.slots k) (Ref v) ≡ c
    → option_map (λ y. set objects o y) (take_at x t (Get o k (Ref v))) ≡ Some r → option_map (λ y. set objects o y) (take_at x t (Get o k Nil)) ≡ None
get_refused_at x t o k v false c objects r h g e = rw h refl
get_refused_at x t o k v true true objects r h g e = rw (h, not_both (slice_get x.slots k) v g) refl
get_refused_at x t o k v true false objects r h g e = absurd (cc (rw (h, g) at e))

get_refused_by : (x : Option PlainObject) (objects r : List PlainObject) (t o k v : ℕ)
    → option_and_then (λ x. option_map (λ y. set objects o y) (take_at x t (Get o k (Ref v)))) x ≡ Some r
    → option_and_then (λ x. option_map (λ y. set objects o y) (take_at x t (Get o k Nil))) x ≡ None
get_refused_by None objects r t o k v e = refl
get_refused_by (Some x) objects r t o k v e =
    get_refused_at x t o k v (owns x.monitor t) (has_value (slice_get x.slots k) (Ref v)) objects r refl refl e

get_refused : (objects r : List PlainObject) (t o k v : ℕ) → take_entry objects t (Get o k (Ref v)) ≡ Some r → take_entry objects t (Get o k Nil) ≡ None
get_refused objects r t o k v e = get_refused_by (slice_get objects o) objects r t o k v e

-- somebody is woken or nobody
calls_apart : (m : PlainMonitor) (waits : List (ℕ × ℕ)) (u : ℕ) (n : PlainMonitor) → calls m waits (Some u) ≡ Some n → calls m waits None ≡ None
calls_apart m [] u n e = absurd (cc e)
calls_apart m (w ∷ ws) u n e = refl

notify_apart : (x : PlainObject) (t u o : ℕ) (objects r : List PlainObject) (b : Bool) (c : Option PlainMonitor)
    → owns x.monitor t ≡ b → calls x.monitor x.monitor.waits (Some u) ≡ c
    → option_map (λ y. set objects o y) (take_at x t (Notify o (Some u))) ≡ Some r → option_map (λ y. set objects o y) (take_at x t (Notify o None)) ≡ None
notify_apart x t u o objects r false c h g e = rw h refl
notify_apart x t u o objects r true None h g e = absurd (cc (rw (h, g) at e))
notify_apart x t u o objects r true (Some n) h g e = rw (h, calls_apart x.monitor x.monitor.waits u n g) refl

notify_refused_by : (x : Option PlainObject) (objects r : List PlainObject) (t o u : ℕ)
    → option_and_then (λ x. option_map (λ y. set objects o y) (take_at x t (Notify o (Some u)))) x ≡ Some r
    → option_and_then (λ x. option_map (λ y. set objects o y) (take_at x t (Notify o None))) x ≡ None
notify_refused_by None objects r t o u e = refl
notify_refused_by (Some x) objects r t o u e =
    notify_apart x t u o objects r (owns x.monitor t) (calls x.monitor x.monitor.waits (Some u)) refl refl e

notify_refused : (objects r : List PlainObject) (t o u : ℕ) → take_entry objects t (Notify o (Some u)) ≡ Some r → take_entry objects t (Notify o None) ≡ None
notify_refused objects r t o u e = notify_refused_by (slice_get objects o) objects r t o u e

-- a value that is a reference isn't nil
not_nil : (v : Value) (n : ℕ) → same_value v (Ref n) ≡ true → same_value v Nil ≡ false
not_nil Nil n h = absurd (cc h)
not_nil (Int z) n h = absurd (cc h)
not_nil (Ref o) n h = refl

and_false : (b : Bool) → (b && false) ≡ false
and_false true = refl
and_false false = refl

put_misfits : (c : MonitorCall) (o k n : ℕ) → is_call c (Put o k (Ref n)) ≡ true → is_call c (Put o k Nil) ≡ false
put_misfits (call.Put p j v) o k n h =
    let parts = and_parts ((p == o) && (j == k)) (same_value v (Ref n)) h in
    rw (not_nil v n parts.1) (and_false ((p == o) && (j == k)))
put_misfits c o k n h = absurd (cc h)

print_misfits : (c : MonitorCall) (n : ℕ) → is_call c (Print (Ref n)) ≡ true → is_call c (Print Nil) ≡ false
print_misfits (call.Print v) n h = not_nil v n h
print_misfits c n h = absurd (cc h)

ending_no_put : (e : Ending) (o k : ℕ) (v : Value) → fits (Ends e) (Put o k v) ≡ false
ending_no_put (ending.Trap f i) o k v = refl
ending_no_put _ o k v = refl

ending_no_print : (e : Ending) (v : Value) → fits (Ends e) (Print v) ≡ false
ending_no_print (ending.Trap f i) v = refl
ending_no_print _ v = refl

put_unasked : (a : NextEntry) (o k n : ℕ) → fits a (Put o k (Ref n)) ≡ true → fits a (Put o k Nil) ≡ false
put_unasked (Calls c) o k n h = put_misfits c o k n h
put_unasked (Resumes p) o k n h = absurd (cc h)
put_unasked (Leaves p) o k n h = absurd (cc h)
put_unasked (Ends e) o k n h = absurd (cc (sym h ∙ ending_no_put e o k (Ref n)))

print_unasked : (a : NextEntry) (n : ℕ) → fits a (Print (Ref n)) ≡ true → fits a (Print Nil) ≡ false
print_unasked (Calls c) n h = print_misfits c n h
print_unasked (Resumes p) n h = absurd (cc h)
print_unasked (Leaves p) n h = absurd (cc h)
print_unasked (Ends e) n h = absurd (cc (sym h ∙ ending_no_print e (Ref n)))

unasked_by : (p : ProgramText) (instructions : List Code) (s after : ThreadState) (e f : Entry) (a : Option NextEntry)
    → ((b : NextEntry) → fits b f ≡ true → fits b e ≡ false)
    → option_and_then (λ b. only_if (fits b f) (after_entry p instructions s b f)) a ≡ Some after
    → option_and_then (λ b. only_if (fits b e) (after_entry p instructions s b e)) a ≡ None
unasked_by p instructions s after e f None apart h = refl
unasked_by p instructions s after e f (Some b) apart h =
    where_true (fits b f) (after_entry p instructions s b f) after h (λ fit same. rw (apart b fit) refl)

-- where a thread asks for one entry and so not for another, the machine that takes the first refuses the other
unasked : (m n : PlainMachine) (t : ℕ) (e f : Entry) (s : Option ThreadState) → ((b : NextEntry) → fits b f ≡ true → fits b e ≡ false)
    → option_and_then (λ s. moved m t (thread_after m.program (code_of m.program t) s f) (made_after_entry m t f) (take_entry m.objects t f)) s ≡ Some n
    → option_and_then (λ s. moved m t (thread_after m.program (code_of m.program t) s e) (made_after_entry m t e) (take_entry m.objects t e)) s ≡ None
unasked m n t e f None apart h = refl
unasked m n t e f (Some s) apart h = by_after (thread_after m.program (code_of m.program t) s f) refl h
  where
    by_after : (after : Option ThreadState) → thread_after m.program (code_of m.program t) s f ≡ after
        → moved m t after (made_after_entry m t f) (take_entry m.objects t f) ≡ Some n
        → moved m t (thread_after m.program (code_of m.program t) s e) (made_after_entry m t e) (take_entry m.objects t e) ≡ None
    by_after None g h = absurd (cc h)
    by_after (Some a) g h =
        let none : thread_after m.program (code_of m.program t) s e ≡ None = unasked_by m.program (code_of m.program t) s a e f (ask s) apart g in
        rw none refl

-- the machine that takes the second reading refuses the first
rival_get : (m n : PlainMachine) (t o k v : ℕ) → take m t (Get o k (Ref v)) ≡ Some n → take m t (Get o k Nil) ≡ None
rival_get m n t o k v h =
    let took = objects_took m n t (Get o k (Ref v)) (take_entry m.objects t (Get o k (Ref v))) (slice_get m.threads t) refl h in
    refused_by_objects m t (Get o k Nil) (slice_get m.threads t) (get_refused m.objects took.0 t o k v took.1)

rival_notify : (m n : PlainMachine) (t o u : ℕ) → take m t (Notify o (Some u)) ≡ Some n → take m t (Notify o None) ≡ None
rival_notify m n t o u h =
    let took = objects_took m n t (Notify o (Some u)) (take_entry m.objects t (Notify o (Some u))) (slice_get m.threads t) refl h in
    refused_by_objects m t (Notify o None) (slice_get m.threads t) (notify_refused m.objects took.0 t o u took.1)

pub rival_refused : (m n : PlainMachine) (t : ℕ) (a b : Entry) → IsRival a b → take m t b ≡ Some n → take m t a ≡ None
rival_refused m n t (Get o k v) b r h = rw r.0 (rival_get m n t o k r.1.0 (rw r.1.1 at h))
rival_refused m n t (Put o k v) b r h =
    rw r.0 (unasked m n t (Put o k Nil) (Put o k (Ref r.1.0)) (slice_get m.threads t) (λ a f. put_unasked a o k r.1.0 f) (rw r.1.1 at h))
rival_refused m n t (Print v) b r h =
    rw r.0 (unasked m n t (Print Nil) (Print (Ref r.1.0)) (slice_get m.threads t) (λ a f. print_unasked a r.1.0 f) (rw r.1.1 at h))
rival_refused m n t (Notify o woken) b r h = rw r.0 (rival_notify m n t o r.1.0 (rw r.1.1 at h))
rival_refused m n t a b r h = absurd r
