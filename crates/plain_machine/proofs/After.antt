-- What is kept true of a machine stays so after an entry.
use Rattle.std.proofs.Common.{◌≡◌, ◌≢◌, inl, inr, ℕ, ◌+◌, ◌-◌, ◌<◌, ◌≤◌, Bool, true, false, ◌==◌, List, length, get_or, set}
use Rattle.std.proofs.Common.{slice_get, sum, Option, Some, None, option_map, option_and_then, refl, sym, ap, arith, ◌∙◌, subst}
use Rattle.std.proofs.lemmas.Bool.{eqb-true, cases_eq, cases_lt}
use Rattle.std.proofs.lemmas.Bool.Decides.{nat_tests}
use Rattle.std.proofs.lemmas.List.{length-set, set_past, get_or_read, get_or-set_same, get_or-set_other}
use Rattle.std.proofs.lemmas.List.Sums.{sum_by-set, sum_by-le}
use Rattle.std.proofs.lemmas.List.Elements.{All-set}
use Rattle.std.proofs.lemmas.Option.{same_Some, cond_some, none-some, slice_get_within, get_or_from_slice_get}
use Rattle.plain_monitor.specs.Limits.{most_holds}
use Rattle.plain_monitor.specs.declared.entry.Entry.{Entry}
use Rattle.plain_monitor.specs.declared.entry.Entry.TheVariants as entry
use Rattle.plain_monitor.specs.declared.entry.Value.{Value}
use Rattle.plain_monitor.specs.declared.entry.Ending.{Ending}
use Rattle.plain_monitor.specs.declared.entry.Ending.TheVariants as ending
use Rattle.plain_monitor.specs.Monitor.{PlainMonitor, enter, exit, wait, resume, notify, notify_all}
use Rattle.plain_monitor.specs.Objects.{PlainObject, new_object, with_monitor, with_hash, hashed, take_at, take_named, take_entry, named}
use Rattle.plain_machine.specs.declared.monitor_call.MonitorCall.TheVariants as call
use Rattle.plain_machine.specs.declared.monitor_call.NextEntry.{NextEntry}
use Rattle.plain_machine.specs.declared.monitor_call.NextEntry.TheVariants.{Calls, Resumes, Leaves, Ends}
use Rattle.plain_machine.specs.declared.monitor_call.Mode.{Mode}
use Rattle.plain_machine.specs.declared.monitor_call.Mode.TheVariants.{Calling, Waiting, Unwinding, Ended}
use Rattle.plain_machine.specs.Thread.{ThreadState, holds_of}
use Rattle.plain_machine.specs.Asking.{ask, ask_in, unwinds, held_from, fits, is_call, is_exit, is_resume, is_ending}
use Rattle.plain_machine.specs.Ready.{IsReadyToAsk, waits_on}
use Rattle.plain_machine.specs.inner.Kept.{holds_after, waits_after}
use Rattle.plain_machine.specs.inner.Takable.{IsTakable}
use Rattle.plain_machine.specs.Sound.{thread_in, while_waiting, waiting_on, AreKept, IsKept, IsBeside, IsSound, ThreadIsReady, monitor_in, unrun}
use Rattle.plain_machine.specs.Machine.{PlainMachine}
use Rattle.plain_machine.proofs.Counted.{counted_owner, count_low}
use Rattle.plain_machine.proofs.Listed.{length-without}
use Rattle.plain_machine.proofs.Steps.{IsStep, IsBefore, beside_same, beside_step, while_yes, while_no, waiting_set}
use Rattle.plain_machine.proofs.Steps.{step_enter, step_exit, step_wait, step_resume, step_notify, step_notify_all}

-- a thread waits on an object, exactly where it asks to have its monitor again
abbrev pub waits_asked : NextEntry → ℕ → Bool
waits_asked (Resumes p) o = p == o
waits_asked a o = false

unwinds_awake : (e : Ending) (h : Option ℕ) (o : ℕ) → waits_asked (unwinds e h) o ≡ false
unwinds_awake e None o = refl
unwinds_awake e (Some p) o = refl

asked_in : (s : ThreadState) (m : Mode) (a : NextEntry) (o : ℕ) → ask_in s m ≡ Some a → waits_on m o ≡ waits_asked a o
asked_in s (Calling c) a o e = rw (← same_Some (Calls c) a e) refl
asked_in s (Waiting p) a o e = rw (← same_Some (Resumes p) a e) refl
asked_in s (Unwinding x) a o e = rw (← same_Some (unwinds x (held_from 0 s.holds)) a e) (sym (unwinds_awake x (held_from 0 s.holds) o))
asked_in s (Ended x) a o e = absurd (none-some a e)

-- thread t, in state r, asked for the entry, and is in state s after it
pub record IsTurn (objects : List PlainObject) (threads : List ThreadState) (t : ℕ) (s : ThreadState) (a : NextEntry) : Type 0 where
  pub lives : t < length threads
  pub before : (o : ℕ) → waits_on (thread_in threads t).mode o ≡ waits_asked a o
  pub after : (o : ℕ) → waits_on s.mode o ≡ waits_after a o
  pub holds : s.holds ≡ holds_after (thread_in threads t) a
  pub length : length (thread_in threads t).holds ≡ length objects
  pub beside : (o : ℕ) → IsBeside threads o (monitor_in objects o)

-- object o took a step of its own
record IsChanged (objects : List PlainObject) (o : ℕ) (f : PlainObject → Option PlainObject) (after : List PlainObject) : Type 0 where
  old : PlainObject
  new : PlainObject
  at : slice_get objects o ≡ Some old
  step : f old ≡ Some new
  is : after ≡ set objects o new

changed_at : (objects : List PlainObject) (o : ℕ) (f : PlainObject → Option PlainObject) (after : List PlainObject) (x : PlainObject) (r : Option PlainObject)
    → slice_get objects o ≡ Some x → f x ≡ r → option_map (λ y. set objects o y) r ≡ Some after → IsChanged objects o f after
changed_at objects o f after x None a e h = absurd (none-some after h)
changed_at objects o f after x (Some y) a e h =
    record { old = x; new = y; at = a; step = e; is = sym (same_Some (set objects o y) after h) }

changed_of : (objects : List PlainObject) (o : ℕ) (f : PlainObject → Option PlainObject) (after : List PlainObject) (r : Option PlainObject)
    → slice_get objects o ≡ r → option_and_then (λ x. option_map (λ y. set objects o y) (f x)) r ≡ Some after → IsChanged objects o f after
changed_of objects o f after None a h = absurd (none-some after h)
changed_of objects o f after (Some x) a h = changed_at objects o f after x (f x) a refl h

changed : (objects : List PlainObject) (o : ℕ) (f : PlainObject → Option PlainObject) (after : List PlainObject)
    → option_and_then (λ x. option_map (λ y. set objects o y) (f x)) (slice_get objects o) ≡ Some after → IsChanged objects o f after
changed objects o f after h = changed_of objects o f after (slice_get objects o) refl h

-- the monitors after a change of object o, where the thread did not wait on another object, and holds the others as often
beside_changed : (objects after : List PlainObject) (threads : List ThreadState) (t o : ℕ) (s : ThreadState) (f : PlainObject → Option PlainObject)
    → t < length threads → ((k : ℕ) → k ≢ o → waits_on (thread_in threads t).mode k ≡ false)
    → ((k : ℕ) → k ≢ o → holds_of s k ≡ holds_of (thread_in threads t) k)
    → ((k : ℕ) → IsBeside threads k (monitor_in objects k))
    → (o < length objects → (x y : PlainObject) → f x ≡ Some y → IsBeside threads o x.monitor → IsBeside (set threads t s) o y.monitor)
    → IsChanged objects o f after → (k : ℕ) → IsBeside (set threads t s) k (monitor_in after k)
beside_changed objects after threads t o s f lt awake same b step c k =
    let within : o < length objects = slice_get_within objects o c.old c.at in
    let old : monitor_in objects o ≡ c.old.monitor = ap (λ (z : PlainObject). z.monitor) (get_or_from_slice_get objects o c.old (new_object 0) c.at) in
    let here : IsBeside threads o c.old.monitor = rw old at (b o) in
    elim (cases_eq k o) [
      | inl q ↦
          let new : monitor_in after k ≡ c.new.monitor =
          rw (q, c.is) (ap (λ (z : PlainObject). z.monitor) (get_or-set_same objects o c.new (new_object 0) within)) in
          rw new (rw q (step within c.old c.new c.step here))
      | inr q ↦
          let new : monitor_in after k ≡ monitor_in objects k =
          rw c.is (ap (λ (z : PlainObject). z.monitor) (get_or-set_other objects o k c.new (new_object 0) q)) in
          rw new (beside_same threads t k s (monitor_in objects k) lt (awake k q) (same k q) (b k))
    ]

with_step : (x y : PlainObject) (r : Option PlainMonitor) → with_monitor x r ≡ Some y → r ≡ Some y.monitor
with_step x y None h = absurd (none-some y h)
with_step x y (Some n) h = ap (λ (z : PlainObject). Some z.monitor) (same_Some (record x { monitor = n }) y h)

-- the monitors after a step of the monitor of object o
beside_stepped : (objects after : List PlainObject) (threads : List ThreadState) (t o : ℕ) (s : ThreadState) (f : PlainMonitor → Option PlainMonitor)
    → t < length threads → ((k : ℕ) → k ≢ o → waits_on (thread_in threads t).mode k ≡ false)
    → ((k : ℕ) → k ≢ o → holds_of s k ≡ holds_of (thread_in threads t) k)
    → ((k : ℕ) → IsBeside threads k (monitor_in objects k))
    → (o < length objects → (m n : PlainMonitor) → IsBefore (thread_in threads t) t o m → f m ≡ Some n → IsStep (thread_in threads t) s t o m n)
    → IsChanged objects o (λ x. with_monitor x (f x.monitor)) after → (k : ℕ) → IsBeside (set threads t s) k (monitor_in after k)
beside_stepped objects after threads t o s f lt awake same b step c =
    beside_changed objects after threads t o s (λ x. with_monitor x (f x.monitor)) lt awake same b (λ within x y e h.
    let before : IsBefore (thread_in threads t) t o x.monitor = record { counted = counted_owner threads t o x.monitor h.counted; listed = h.listed t } in
    beside_step threads t o s x.monitor y.monitor lt (step within x.monitor y.monitor before (with_step x y (f x.monitor) e)) h) c

-- the same, where nobody asks to resume and the holds of object o alone change, to h
beside_awake : (objects after : List PlainObject) (threads : List ThreadState)
    (t o h : ℕ) (s : ThreadState) (a : NextEntry) (f : PlainMonitor → Option PlainMonitor)
    → ((k : ℕ) → waits_asked a k ≡ false) → holds_after (thread_in threads t) a ≡ set (thread_in threads t).holds o h
    → IsTurn objects threads t s a
    → ((m n : PlainMonitor) → holds_of s o ≡ h → IsBefore (thread_in threads t) t o m → f m ≡ Some n → IsStep (thread_in threads t) s t o m n)
    → IsChanged objects o (λ x. with_monitor x (f x.monitor)) after → (k : ℕ) → IsBeside (set threads t s) k (monitor_in after k)
beside_awake objects after threads t o h s a f e q w step c =
    let holds : s.holds ≡ set (thread_in threads t).holds o h = w.holds ∙ q in
    beside_stepped objects after threads t o s f w.lives (λ k d. w.before k ∙ e k)
    (λ k d. ap (λ hs. get_or hs k 0) holds ∙ get_or-set_other (thread_in threads t).holds o k h 0 d) w.beside
    (λ within m n b k.
    let lt : o < length (thread_in threads t).holds = omega (arith, w.length) in
    step m n (ap (λ hs. get_or hs o 0) holds ∙ get_or-set_same (thread_in threads t).holds o h 0 lt) b k) c

-- the same, where its holds stay
beside_held : (objects after : List PlainObject) (threads : List ThreadState)
    (t o : ℕ) (s : ThreadState) (a : NextEntry) (f : PlainMonitor → Option PlainMonitor)
    → ((k : ℕ) → k ≢ o → waits_asked a k ≡ false) → holds_after (thread_in threads t) a ≡ (thread_in threads t).holds
    → IsTurn objects threads t s a
    → ((m n : PlainMonitor) → holds_of s o ≡ holds_of (thread_in threads t) o
    → IsBefore (thread_in threads t) t o m → f m ≡ Some n → IsStep (thread_in threads t) s t o m n)
    → IsChanged objects o (λ x. with_monitor x (f x.monitor)) after → (k : ℕ) → IsBeside (set threads t s) k (monitor_in after k)
beside_held objects after threads t o s a f e q w step c =
    let holds : (k : ℕ) → holds_of s k ≡ holds_of (thread_in threads t) k = λ k. ap (λ hs. get_or hs k 0) (w.holds ∙ q) in
    beside_stepped objects after threads t o s f w.lives (λ k d. w.before k ∙ e k d) (λ k d. holds k) w.beside
    (λ within m n b k. step m n (holds o) b k) c

same_number : (o : ℕ) → (o == o) ≡ true
same_number o = grind (arith, nat_tests)

other_number : (o k : ℕ) → k ≢ o → (o == k) ≡ false
other_number o k d = grind (arith, nat_tests, d)

entered : (objects after : List PlainObject) (o t : ℕ) (e : Entry) → is_call (call.Enter o) e ≡ true → take_entry objects t e ≡ Some after
    → IsChanged objects o (λ x. with_monitor x (enter x.monitor t)) after
entered objects after o t (entry.Enter object path) f h =
    let q : o ≡ object = eqb-true o object f in rw q (changed objects object (λ x. with_monitor x (enter x.monitor t)) after h)
entered objects after o t e f h = absurd (cc f)

exited : (objects after : List PlainObject) (o t : ℕ) (e : Entry) → is_exit o e ≡ true → take_entry objects t e ≡ Some after
    → IsChanged objects o (λ x. with_monitor x (exit x.monitor t)) after
exited objects after o t (entry.Exit object) f h =
    let q : o ≡ object = eqb-true o object f in rw q (changed objects object (λ x. with_monitor x (exit x.monitor t)) after h)
exited objects after o t e f h = absurd (cc f)

exit_call : (o : ℕ) (e : Entry) → is_call (call.Exit o) e ≡ true → is_exit o e ≡ true
exit_call o (entry.Exit object) f = f
exit_call o e f = absurd (cc f)

waited : (objects after : List PlainObject) (o t : ℕ) (e : Entry) → is_call (call.Wait o) e ≡ true → take_entry objects t e ≡ Some after
    → IsChanged objects o (λ x. with_monitor x (wait x.monitor t)) after
waited objects after o t (entry.Wait object) f h =
    let q : o ≡ object = eqb-true o object f in rw q (changed objects object (λ x. with_monitor x (wait x.monitor t)) after h)
waited objects after o t e f h = absurd (cc f)

resumed_at : (objects after : List PlainObject) (o t : ℕ) (e : Entry) → is_resume o e ≡ true → take_entry objects t e ≡ Some after
    → IsChanged objects o (λ x. with_monitor x (resume x.monitor t)) after
resumed_at objects after o t (entry.Resume object) f h =
    let q : o ≡ object = eqb-true o object f in rw q (changed objects object (λ x. with_monitor x (resume x.monitor t)) after h)
resumed_at objects after o t e f h = absurd (cc f)

record IsNotified (objects : List PlainObject) (o t : ℕ) (after : List PlainObject) : Type 0 where
  woken : Option ℕ
  changes : IsChanged objects o (λ x. with_monitor x (notify x.monitor t woken)) after

notified : (objects after : List PlainObject) (o t : ℕ) (e : Entry) → is_call (call.Notify o) e ≡ true → take_entry objects t e ≡ Some after
    → IsNotified objects o t after
notified objects after o t (entry.Notify object woken) f h =
    let q : o ≡ object = eqb-true o object f in
    rw q (record { woken = woken; changes = changed objects object (λ x. with_monitor x (notify x.monitor t woken)) after h })
notified objects after o t e f h = absurd (cc f)

record IsAllNotified (objects : List PlainObject) (o t : ℕ) (after : List PlainObject) : Type 0 where
  woken : ℕ
  changes : IsChanged objects o (λ x. with_monitor x (notify_all x.monitor t woken)) after

all_notified : (objects after : List PlainObject) (o t : ℕ) (e : Entry) → is_call (call.NotifyAll o) e ≡ true → take_entry objects t e ≡ Some after
    → IsAllNotified objects o t after
all_notified objects after o t (entry.NotifyAll object woken) f h =
    let q : o ≡ object = eqb-true o object f in
    rw q (record { woken = woken; changes = changed objects object (λ x. with_monitor x (notify_all x.monitor t woken)) after h })
all_notified objects after o t e f h = absurd (cc f)

-- an entry that no monitor changes by
abbrev IsQuiet : ℕ → Entry → Type 0
IsQuiet t e = (x y : PlainObject) → take_at x t e ≡ Some y → y.monitor ≡ x.monitor

quiet_same : (x y : PlainObject) → Some x ≡ Some y → y.monitor ≡ x.monitor
quiet_same x y h = ap (λ (z : PlainObject). z.monitor) (sym (same_Some x y h))

quiet_get : (l o k t : ℕ) (e : Entry) → is_call (call.Get l o k) e ≡ true → IsQuiet t e
quiet_get l o k t (entry.Get object slot value) f = λ x y h. ap (λ (z : PlainObject). z.monitor) (sym (cond_some _ x y h).1)
quiet_get l o k t e f = absurd (cc f)

quiet_put : (o k : ℕ) (v : Value) (t : ℕ) (e : Entry) → is_call (call.Put o k v) e ≡ true → IsQuiet t e
quiet_put o k v t (entry.Put object slot value) f = λ x y h. ap (λ (z : PlainObject). z.monitor) (sym (cond_some _ (record x { slots = _ }) y h).1)
quiet_put o k v t e f = absurd (cc f)

hash_quiet : (x y : PlainObject) (r : Option (Option ℕ)) → with_hash x r ≡ Some y → y.monitor ≡ x.monitor
hash_quiet x y None h = absurd (none-some y h)
hash_quiet x y (Some k) h = ap (λ (z : PlainObject). z.monitor) (sym (same_Some (record x { hash = k }) y h))

quiet_hash : (l o t : ℕ) (e : Entry) → is_call (call.Hash l o) e ≡ true → IsQuiet t e
quiet_hash l o t (entry.Hash object value drawn) f = λ x y h. hash_quiet x y (hashed x.hash value) h
quiet_hash l o t e f = absurd (cc f)

quiet_new : (l c t : ℕ) (e : Entry) → is_call (call.New l c) e ≡ true → IsQuiet t e
quiet_new l c t (entry.New object class) f = quiet_same
quiet_new l c t e f = absurd (cc f)

quiet_print : (v : Value) (t : ℕ) (e : Entry) → is_call (call.Print v) e ≡ true → IsQuiet t e
quiet_print v t (entry.Print value) f = quiet_same
quiet_print v t e f = absurd (cc f)

quiet_dump : (n t : ℕ) (e : Entry) → is_call (call.Dump n) e ≡ true → IsQuiet t e
quiet_dump n t (entry.Dump number) f = quiet_same
quiet_dump n t e f = absurd (cc f)

quiet_end : (x : Ending) (t : ℕ) (e : Entry) → is_ending x e ≡ true → IsQuiet t e
quiet_end (ending.Trap g i) t (entry.Trap fault index) f = quiet_same
quiet_end ending.Spent t entry.Spent f = quiet_same
quiet_end ending.Done t entry.Done f = quiet_same
quiet_end x t e f = absurd (cc f)

quiet_named : (objects after : List PlainObject) (threads : List ThreadState) (t : ℕ) (s : ThreadState) (a : NextEntry) (e : Entry) (w : Option ℕ)
    → ((k : ℕ) → waits_asked a k ≡ false) → holds_after (thread_in threads t) a ≡ (thread_in threads t).holds → IsQuiet t e
    → IsTurn objects threads t s a → take_named objects t e w ≡ Some after → (k : ℕ) → IsBeside (set threads t s) k (monitor_in after k)
quiet_named objects after threads t s a e None awake q quiet turn h k =
    let same = same_Some objects after h in
    rw (← same) (beside_same threads t k s (monitor_in objects k) turn.lives
    (turn.before k ∙ awake k) (ap (λ hs. get_or hs k 0) (turn.holds ∙ q)) (turn.beside k))
quiet_named objects after threads t s a e (Some o) awake q quiet turn h i =
    let before : (k : ℕ) → waits_on (thread_in threads t).mode k ≡ false = λ k. turn.before k ∙ awake k in
    let holds : (k : ℕ) → holds_of s k ≡ holds_of (thread_in threads t) k = λ k. ap (λ hs. get_or hs k 0) (turn.holds ∙ q) in
    beside_changed objects after threads t o s (λ x. take_at x t e) turn.lives (λ k d. before k) (λ k d. holds k) turn.beside
    (λ within x y step b. rw (quiet x y step) (beside_same threads t o s x.monitor turn.lives (before o) (holds o) b))
    (changed objects o (λ x. take_at x t e) after h) i

-- the monitors after an entry that the thread asked for
pub beside_after : (objects after : List PlainObject) (threads : List ThreadState) (t : ℕ) (s : ThreadState) (a : NextEntry) (e : Entry)
    → fits a e ≡ true → take_entry objects t e ≡ Some after → IsTurn objects threads t s a
    → (k : ℕ) → IsBeside (set threads t s) k (monitor_in after k)
beside_after objects after threads t s (Calls (call.Enter o)) e f h w =
    beside_awake objects after threads t o (holds_of (thread_in threads t) o + 1) s (Calls (call.Enter o)) (λ m. enter m t) (λ k. refl) refl w
    (λ m n q b k. step_enter (thread_in threads t) s t o m n (w.before o) (w.after o) q b k) (entered objects after o t e f h)
beside_after objects after threads t s (Calls (call.Exit o)) e f h w =
    beside_awake objects after threads t o (holds_of (thread_in threads t) o - 1) s (Calls (call.Exit o)) (λ m. exit m t) (λ k. refl) refl w
    (λ m n q b k. step_exit (thread_in threads t) s t o m n (w.before o) (w.after o) q b k) (exited objects after o t e (exit_call o e f) h)
beside_after objects after threads t s (Leaves o) e f h w =
    beside_awake objects after threads t o (holds_of (thread_in threads t) o - 1) s (Leaves o) (λ m. exit m t) (λ k. refl) refl w
    (λ m n q b k. step_exit (thread_in threads t) s t o m n (w.before o) (w.after o) q b k) (exited objects after o t e f h)
beside_after objects after threads t s (Calls (call.Wait o)) e f h w =
    beside_held objects after threads t o s (Calls (call.Wait o)) (λ m. wait m t) (λ k d. refl) refl w
    (λ m n q b k. step_wait (thread_in threads t) s t o m n (w.before o) (w.after o ∙ same_number o) q b k) (waited objects after o t e f h)
beside_after objects after threads t s (Resumes o) e f h w =
    beside_held objects after threads t o s (Resumes o) (λ m. resume m t) (λ k d. other_number o k d) refl w
    (λ m n q b k. step_resume (thread_in threads t) s t o m n (w.before o ∙ same_number o) (w.after o) q b k) (resumed_at objects after o t e f h)
beside_after objects after threads t s (Calls (call.Notify o)) e f h w =
    let told = notified objects after o t e f h in
    beside_held objects after threads t o s (Calls (call.Notify o)) (λ m. notify m t told.woken) (λ k d. refl) refl w
    (λ m n q b k. step_notify (thread_in threads t) s t o told.woken m n (w.before o) (w.after o) q b k) told.changes
beside_after objects after threads t s (Calls (call.NotifyAll o)) e f h w =
    let told = all_notified objects after o t e f h in
    beside_held objects after threads t o s (Calls (call.NotifyAll o)) (λ m. notify_all m t told.woken) (λ k d. refl) refl w
    (λ m n q b k. step_notify_all (thread_in threads t) s t o told.woken m n (w.before o) (w.after o) q b k) told.changes
beside_after objects after threads t s (Calls (call.Get l o i)) e f h w =
    quiet_named objects after threads t s (Calls (call.Get l o i)) e (named e) (λ k. refl) refl (quiet_get l o i t e f) w h
beside_after objects after threads t s (Calls (call.Put o i v)) e f h w =
    quiet_named objects after threads t s (Calls (call.Put o i v)) e (named e) (λ k. refl) refl (quiet_put o i v t e f) w h
beside_after objects after threads t s (Calls (call.Hash l o)) e f h w =
    quiet_named objects after threads t s (Calls (call.Hash l o)) e (named e) (λ k. refl) refl (quiet_hash l o t e f) w h
beside_after objects after threads t s (Calls (call.New l c)) e f h w =
    quiet_named objects after threads t s (Calls (call.New l c)) e (named e) (λ k. refl) refl (quiet_new l c t e f) w h
beside_after objects after threads t s (Calls (call.Print v)) e f h w =
    quiet_named objects after threads t s (Calls (call.Print v)) e (named e) (λ k. refl) refl (quiet_print v t e f) w h
beside_after objects after threads t s (Calls (call.Dump i)) e f h w =
    quiet_named objects after threads t s (Calls (call.Dump i)) e (named e) (λ k. refl) refl (quiet_dump i t e f) w h
beside_after objects after threads t s (Ends x) e f h w =
    quiet_named objects after threads t s (Ends x) e (named e) (λ k. refl) refl (quiet_end x t e f) w h

-- the sum of the holds after one more and one less
sum_more : (xs : List ℕ) (o : ℕ) → sum (set xs o (get_or xs o 0 + 1)) ≤ sum xs + 1
sum_more xs o =
    elim (cases_lt o (length xs)) [
      | inl lt ↦ omega (arith, sum_by-set (λ x. x) xs o (get_or xs o 0 + 1) 0 lt)
      | inr ge ↦ omega (arith, ap sum (set_past xs o (get_or xs o 0 + 1) ge))
    ]

sum_less : (xs : List ℕ) (o : ℕ) → sum (set xs o (get_or xs o 0 - 1)) ≤ sum xs
sum_less xs o =
    elim (cases_lt o (length xs)) [
      | inl lt ↦ omega (arith, sum_by-set (λ x. x) xs o (get_or xs o 0 - 1) 0 lt)
      | inr ge ↦ omega (arith, ap sum (set_past xs o (get_or xs o 0 - 1) ge))
    ]

holds_length : (s : ThreadState) (a : NextEntry) → length (holds_after s a) ≡ length s.holds
holds_length s (Calls (call.Enter o)) = length-set s.holds o (holds_of s o + 1)
holds_length s (Calls (call.Exit o)) = length-set s.holds o (holds_of s o - 1)
holds_length s (Leaves o) = length-set s.holds o (holds_of s o - 1)
holds_length s a = refl

holds_sum : (s : ThreadState) (a : NextEntry) → IsReadyToAsk s a → sum s.holds ≤ most_holds → sum (holds_after s a) ≤ most_holds
holds_sum s (Calls (call.Enter o)) r h = let room : sum s.holds < most_holds = r.1 in omega (arith, sum_more s.holds o)
holds_sum s (Calls (call.Exit o)) r h = omega (arith, sum_less s.holds o)
holds_sum s (Leaves o) r h = omega (arith, sum_less s.holds o)
holds_sum s a r h = h

-- the threads after an entry that one of them asked for
kept_after : (n : ℕ) (threads : List ThreadState) (t : ℕ) (s : ThreadState) (a : NextEntry) → t < length threads
    → IsReadyToAsk (thread_in threads t) a → s.holds ≡ holds_after (thread_in threads t) a → ThreadIsReady s
    → AreKept n threads → AreKept n (set threads t s)
kept_after n threads t s a lt r q ready k =
    let old : IsKept n (thread_in threads t) = k t _ lt in
    let now : IsKept n s = record {
      objects = ap length q ∙ holds_length (thread_in threads t) a ∙ old.objects;
      few = rw q (holds_sum (thread_in threads t) a r old.few);
      ready = ready;
    } in
    All-set (IsKept n) threads t s now k

length_taken : (objects after : List PlainObject) (o : ℕ) (r : Option PlainObject)
    → option_map (λ y. set objects o y) r ≡ Some after → length after ≡ length objects
length_taken objects after o None h = absurd (none-some after h)
length_taken objects after o (Some y) h = ap length (sym (same_Some (set objects o y) after h)) ∙ length-set objects o y

length_at : (objects after : List PlainObject) (t o : ℕ) (e : Entry) (r : Option PlainObject)
    → option_and_then (λ x. option_map (λ y. set objects o y) (take_at x t e)) r ≡ Some after → length after ≡ length objects
length_at objects after t o e None h = absurd (none-some after h)
length_at objects after t o e (Some x) h = length_taken objects after o (take_at x t e) h

length_named : (objects after : List PlainObject) (t : ℕ) (e : Entry) (w : Option ℕ) → take_named objects t e w ≡ Some after → length after ≡ length objects
length_named objects after t e None h = ap length (sym (same_Some objects after h))
length_named objects after t e (Some o) h = length_at objects after t o e (slice_get objects o) h

-- objects stay as many
pub length_after : (objects after : List PlainObject) (t : ℕ) (e : Entry) → take_entry objects t e ≡ Some after → length after ≡ length objects
length_after objects after t e h = length_named objects after t e (named e) h

-- what thread t, in state s, asked for and became
pub record IsAnswered (s next : ThreadState) (a : NextEntry) : Type 0 where
  pub asked : ask s ≡ Some a
  pub ready : IsReadyToAsk s a
  pub holds : next.holds ≡ holds_after s a
  pub now : ThreadIsReady next
  pub waits : (o : ℕ) → waits_on next.mode o ≡ waits_after a o

sound_at : (m : PlainMachine) (t : ℕ) (e : Entry) (a : NextEntry) (made : List (List ℕ)) (after : List PlainObject) (next : ThreadState)
    → t < length m.threads → fits a e ≡ true → take_entry m.objects t e ≡ Some after → IsAnswered (thread_in m.threads t) next a → IsSound m
    → IsSound (record m { objects = after; made = made; threads = set m.threads t next })
sound_at m t e a made after next lt f h w k =
    let len : length after ≡ length m.objects = length_after m.objects after t e h in
    let turn : IsTurn m.objects m.threads t next a = record {
      lives = lt;
      before = λ o. asked_in (thread_in m.threads t) (thread_in m.threads t).mode a o w.asked;
      after = w.waits;
      holds = w.holds;
      length = (k.kept t (unrun 0 0 0) lt).objects;
      beside = k.monitors;
    } in
    record {
      program = k.program;
      total = len ∙ k.total;
      threads = length-set m.threads t next ∙ k.threads;
      few = rw (length-set m.threads t next) k.few;
      kept = rw len (kept_after (length m.objects) m.threads t next a lt w.ready w.holds w.now k.kept);
      monitors = beside_after m.objects after m.threads t next a e f h turn;
    }

-- two reads of a thread
pub same_read : (threads : List ThreadState) (t : ℕ) (s u : ThreadState) → t < length threads → s ≡ get_or threads t s → u ≡ get_or threads t u → s ≡ u
same_read threads t s u lt p q = get_or_read threads t s lt p s ∙ sym (get_or_read threads t u lt q s)

-- the machine after an entry that thread t, in state s, asked for
pub sound_after : (m : PlainMachine) (t : ℕ) (e : Entry) (a : NextEntry) (made : List (List ℕ)) (after : List PlainObject) (s next : ThreadState)
    → t < length m.threads → s ≡ get_or m.threads t s → fits a e ≡ true → take_entry m.objects t e ≡ Some after → IsAnswered s next a → IsSound m
    → IsSound (record m { objects = after; made = made; threads = set m.threads t next })
sound_after m t e a made after s next lt at f h w k =
    sound_at m t e a made after next lt f h (subst (λ z. IsAnswered z next a) (get_or_read m.threads t s lt at (unrun 0 0 0)) w) k

wait_awake : (a : NextEntry) (o k : ℕ) → fits a (entry.Wait o) ≡ true → waits_asked a k ≡ false
wait_awake (Resumes p) o k f = absurd (cc f)
wait_awake _ o k f = refl

one_place : (s : ThreadState) (o : ℕ) (b : Bool) → waits_on s.mode o ≡ b → while_waiting s o 1 ≤ 1
one_place s o true e = rw e (omega arith)
one_place s o false e = rw e (omega arith)

waiting_few : (threads : List ThreadState) (o : ℕ) → waiting_on threads o ≤ length threads
waiting_few threads o =
    omega (arith, sum_by-le (λ s. while_waiting s o 1) 1 threads (λ i d lt. one_place (get_or threads i d) o (waits_on (get_or threads i d).mode o) refl))

-- a thread that does not wait is one more than those that do
waiting_fewer : (threads : List ThreadState) (t o : ℕ) → t < length threads
    → waits_on (thread_in threads t).mode o ≡ false → waiting_on threads o < length threads
waiting_fewer threads t o lt e =
    let s : ThreadState = record (unrun 0 0 0) { mode = Waiting o } in
    let yes = while_yes s o 1 (same_number o) in
    let no = while_no (thread_in threads t) o 1 e in
    omega (arith, yes, no, waiting_set threads t o s lt, waiting_few (set threads t s) o, length-set threads t s)

takable_at : (m : PlainMachine) (t : ℕ) (e : Entry) (a : NextEntry) → t < length m.threads → ask (thread_in m.threads t) ≡ Some a → fits a e ≡ true → IsSound m
    → IsTakable m.objects t e
takable_at m t (entry.Enter o path) a lt q f k =
    count_low (length m.objects) m.threads o (monitor_in m.objects o) k.kept (k.monitors o).counted
takable_at m t (entry.Wait o) a lt q f k =
    let awake = asked_in (thread_in m.threads t) (thread_in m.threads t).mode a o q ∙ wait_awake a o o f in
    omega (arith, k.few, (k.monitors o).waiting, waiting_fewer m.threads t o lt awake)
takable_at m t (entry.Resume o) a lt q f k =
    let listed = (k.monitors o).listed t in
    omega (
      arith,
      listed.once,
      one_place (thread_in m.threads t) o (waits_on (thread_in m.threads t).mode o) refl,
      length-without (monitor_in m.objects o).called t,
    )
takable_at m t e a lt q f k = tt

-- the objects can take or refuse an entry that thread t, in state s, asks for
pub takable : (m : PlainMachine) (t : ℕ) (e : Entry) (a : NextEntry) (s : ThreadState) → t < length m.threads → s ≡ get_or m.threads t s
    → ask s ≡ Some a → fits a e ≡ true → IsSound m → IsTakable m.objects t e
takable m t e a s lt at q f k =
    takable_at m t e a lt (subst (λ z. ask z ≡ Some a) (get_or_read m.threads t s lt at (unrun 0 0 0)) q) f k
