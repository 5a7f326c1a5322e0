-- Each entry that a reached machine takes leaves a reached machine with less work.
use Rattle.std.proofs.Common.{◌≡◌, ℕ, ◌+◌, ◌<◌, slice_set, true, pos, List, Option, Some, None, refl, sym, subst, eqb-true, ◌==◌, ◌&&◌}
use Rattle.std.proofs.lemmas.Bool.{false≢true, and_parts}
use Rattle.std.proofs.lemmas.Option.{same_Some, slice_get_within, cond_some}
use Rattle.plain_monitor.specs.declared.entry.Value.{Value}
use Rattle.plain_monitor.specs.declared.entry.Value.TheVariants.{Int, Ref}
use Rattle.plain_monitor.specs.declared.entry.Ending.{Ending}
use Rattle.plain_monitor.specs.declared.entry.Ending.TheVariants as ending
use Rattle.plain_monitor.specs.declared.entry.Entry.{Entry}
use Rattle.plain_monitor.specs.declared.entry.Entry.TheVariants.{Enter, Exit, Get, Put, Wait, Resume, Notify, NotifyAll}
use Rattle.plain_monitor.specs.declared.entry.Entry.TheVariants.{Hash, New, Print, Dump, Trap, Spent, Done}
use Rattle.plain_monitor.specs.Objects.{PlainObject, same_value, take_entry, take_named, named}
use Rattle.plain_monitor.specs.Made.{may_create}
use Rattle.plain_history.proofs.MadeSteps.{grown, creating}
use Rattle.object_program.specs.Program.{ProgramText, objects_total, numbering_of}
use Rattle.plain_machine.specs.declared.monitor_call.MonitorCall.{MonitorCall}
use Rattle.plain_machine.specs.declared.monitor_call.MonitorCall.TheVariants as call
use Rattle.plain_machine.specs.declared.monitor_call.Mode.TheVariants.{Ended}
use Rattle.plain_machine.specs.declared.monitor_call.NextEntry.{NextEntry}
use Rattle.plain_machine.specs.declared.monitor_call.NextEntry.TheVariants.{Calls, Resumes, Leaves, Ends}
use Rattle.plain_machine.specs.Thread.{ThreadState, with_local}
use Rattle.plain_machine.specs.Asking.{is_ending, is_call, is_exit, is_resume, fits, after_entry}
use Rattle.plain_machine.specs.Machine.{PlainMachine, code_of, made_after_entry, take}
use Rattle.plain_machine.specs.Values.{IsValueOf}
use Rattle.machine_laws.specs.Work.{work_left}
use Rattle.machine_laws.specs.ReachedThread.{IsStateOf}
use Rattle.machine_laws.specs.Reached.{IsReached}
use Rattle.machine_laws.proofs.ReachedRunning.{set_state}
use Rattle.machine_laws.proofs.ReachedFrame.{IsWell, IsProgress, IsMaker, moved_to}
use Rattle.machine_laws.proofs.ReachedMade.{IsMadeAfter, all_made_after_entry, new_below}
use Rattle.machine_laws.proofs.ReachedAsked.{IsPaid, IsAwaited, IsLeft, IsLast, IsAskedOf, IsTakenAt, asked_of, taken, taken_at}
use Rattle.machine_laws.proofs.ReachedObjects.{same_is, enter_step, exit_step, wait_step, resume_step}
use Rattle.machine_laws.proofs.ReachedObjects.{notify_step, notify_all_step, get_step, put_step, hash_step}
use Rattle.machine_laws.proofs.ReachedKinds.{in_wait, thread_of, state_of, call_alone, call_at, enter_kind}
use Rattle.machine_laws.proofs.ReachedKinds.{exit_kind, leave_kind, wait_kind, resume_kind, end_kind}

-- what a kind of entry leaves
abbrev After : PlainMachine → ℕ → ThreadState → NextEntry → Entry → List PlainObject → Type 0
After m t s a e objects = IsProgress m (moved_to m t (after_entry m.program (code_of m.program t) s a e) objects)

-- the machine with the thread and these objects
abbrev WithObjects : PlainMachine → ℕ → ThreadState → List PlainObject → Type 0
WithObjects m t next objects = IsProgress m (moved_to m t next objects)

-- the object that the entry names is the one that was asked for
taken_there : (m : PlainMachine) (o k t : ℕ) (e : Entry) (objects : List PlainObject) → (o == k) ≡ true
    → take_named m.objects t e (Some k) ≡ Some objects → IsTakenAt m.objects o t e objects
taken_there m o k t e objects same takes =
    taken_at m.objects o t e objects (subst (λ (i : ℕ). take_named m.objects t e (Some i) ≡ Some objects) (sym (eqb-true o k same)) takes)

enter_entry : (m : PlainMachine) (t o : ℕ) (s : ThreadState) (e : Entry) (objects : List PlainObject)
    → IsMaker m t s → IsPaid m.program s (call.Enter o) → is_call (call.Enter o) e ≡ true
    → take_entry m.objects t e ≡ Some objects → After m t s (Calls (call.Enter o)) e objects
enter_entry m t o s (Enter k path) objects h paid fit takes =
    let r = taken_there m o k t (Enter k path) objects fit takes in
    subst (WithObjects m t _) r.is
    (enter_kind m t o s r.x r.y h paid (enter_step m t o k path r.x r.y h.reached (slice_get_within m.threads t s h.at) r.there r.takes))
enter_entry m t o s e objects h paid fit takes = absurd (false≢true fit)

exit_entry : (m : PlainMachine) (t o : ℕ) (s : ThreadState) (e : Entry) (objects : List PlainObject)
    → IsMaker m t s → IsPaid m.program s (call.Exit o) → is_call (call.Exit o) e ≡ true
    → take_entry m.objects t e ≡ Some objects → After m t s (Calls (call.Exit o)) e objects
exit_entry m t o s (Exit k) objects h paid fit takes =
    let r = taken_there m o k t (Exit k) objects fit takes in
    subst (WithObjects m t _) r.is (exit_kind m t o s r.x r.y h paid (exit_step m t o k r.x r.y h.reached r.there r.takes))
exit_entry m t o s e objects h paid fit takes = absurd (false≢true fit)

wait_entry : (m : PlainMachine) (t o : ℕ) (s : ThreadState) (e : Entry) (objects : List PlainObject)
    → IsMaker m t s → IsPaid m.program s (call.Wait o) → is_call (call.Wait o) e ≡ true
    → take_entry m.objects t e ≡ Some objects → After m t s (Calls (call.Wait o)) e objects
wait_entry m t o s (Wait k) objects h paid fit takes =
    let r = taken_there m o k t (Wait k) objects fit takes in
    subst (WithObjects m t (in_wait s o)) r.is (wait_kind m t o s r.x r.y h paid (wait_step m t o k r.x r.y h.reached r.there r.takes))
wait_entry m t o s e objects h paid fit takes = absurd (false≢true fit)

resume_entry : (m : PlainMachine) (t o : ℕ) (s : ThreadState) (e : Entry) (objects : List PlainObject)
    → IsMaker m t s → IsAwaited m.program s o → is_resume o e ≡ true
    → take_entry m.objects t e ≡ Some objects → After m t s (Resumes o) e objects
resume_entry m t o s (Resume k) objects h awaited fit takes =
    let r = taken_there m o k t (Resume k) objects fit takes in
    subst (WithObjects m t _) r.is (resume_kind m t o s r.x r.y h awaited (resume_step m t o k r.x r.y h.reached r.there r.takes))
resume_entry m t o s e objects h awaited fit takes = absurd (false≢true fit)

notify_entry : (m : PlainMachine) (t o : ℕ) (s : ThreadState) (e : Entry) (objects : List PlainObject)
    → IsMaker m t s → IsPaid m.program s (call.Notify o) → is_call (call.Notify o) e ≡ true
    → take_entry m.objects t e ≡ Some objects → After m t s (Calls (call.Notify o)) e objects
notify_entry m t o s (Notify k woken) objects h paid fit takes =
    let r = taken_there m o k t (Notify k woken) objects fit takes in
    subst (WithObjects m t _) r.is
    (call_at m t o s s (call.Notify o) r.x r.y h paid (state_of m t s h) refl (notify_step m t o k woken r.x r.y h.reached r.there r.takes))
notify_entry m t o s e objects h paid fit takes = absurd (false≢true fit)

notify_all_entry : (m : PlainMachine) (t o : ℕ) (s : ThreadState) (e : Entry) (objects : List PlainObject)
    → IsMaker m t s → IsPaid m.program s (call.NotifyAll o) → is_call (call.NotifyAll o) e ≡ true
    → take_entry m.objects t e ≡ Some objects → After m t s (Calls (call.NotifyAll o)) e objects
notify_all_entry m t o s (NotifyAll k many) objects h paid fit takes =
    let r = taken_there m o k t (NotifyAll k many) objects fit takes in
    subst (WithObjects m t _) r.is
    (call_at m t o s s (call.NotifyAll o) r.x r.y h paid (state_of m t s h) refl (notify_all_step m t o k many r.x r.y h.reached r.there r.takes))
notify_all_entry m t o s e objects h paid fit takes = absurd (false≢true fit)

get_entry : (m : PlainMachine) (t x o k : ℕ) (s : ThreadState) (e : Entry) (objects : List PlainObject)
    → IsMaker m t s → IsPaid m.program s (call.Get x o k) → is_call (call.Get x o k) e ≡ true
    → take_entry m.objects t e ≡ Some objects → After m t s (Calls (call.Get x o k)) e objects
get_entry m t x o k s (Get object slot value) objects h paid fit takes =
    let r = taken_there m o object t (Get object slot value) objects (and_parts (o == object) (k == slot) fit).0 takes in
    let read = get_step m t o object slot value r.x r.y h.reached r.there r.takes in
    subst (WithObjects m t _) r.is (call_at m t o s (with_local s x value) (call.Get x o k) r.x r.y h paid
    (set_state m.program s x value (state_of m t s h) read.value) refl read.step)
get_entry m t x o k s e objects h paid fit takes = absurd (false≢true fit)

put_entry : (m : PlainMachine) (t o k : ℕ) (v : Value) (s : ThreadState) (e : Entry) (objects : List PlainObject)
    → IsMaker m t s → IsPaid m.program s (call.Put o k v) → is_call (call.Put o k v) e ≡ true
    → take_entry m.objects t e ≡ Some objects → After m t s (Calls (call.Put o k v)) e objects
put_entry m t o k v s (Put object slot value) objects h paid fit takes =
    let both = and_parts ((o == object) && (k == slot)) (same_value v value) fit in
    let r = taken_there m o object t (Put object slot value) objects (and_parts (o == object) (k == slot) both.0).0 takes in
    let is : IsValueOf (objects_total m.program) value = subst (IsValueOf (objects_total m.program)) (same_is v value both.1) paid.call.2 in
    subst (WithObjects m t _) r.is (call_at m t o s s (call.Put o k v) r.x r.y h paid
    (state_of m t s h) refl (put_step m t o object slot value r.x r.y h.reached r.there is r.takes))
put_entry m t o k v s e objects h paid fit takes = absurd (false≢true fit)

hash_entry : (m : PlainMachine) (t x o : ℕ) (s : ThreadState) (e : Entry) (objects : List PlainObject)
    → IsMaker m t s → IsPaid m.program s (call.Hash x o) → is_call (call.Hash x o) e ≡ true
    → take_entry m.objects t e ≡ Some objects → After m t s (Calls (call.Hash x o)) e objects
hash_entry m t x o s (Hash object value drawn) objects h paid fit takes =
    let r = taken_there m o object t (Hash object value drawn) objects fit takes in
    let read = hash_step m t o object value drawn r.x r.y h.reached r.there r.takes in
    subst (WithObjects m t _) r.is (call_at m t o s (with_local s x (Int (pos value))) (call.Hash x o) r.x r.y h paid
    (set_state m.program s x (Int (pos value)) (state_of m t s h) read.value) refl read.step)
hash_entry m t x o s e objects h paid fit takes = absurd (false≢true fit)

print_entry : (m : PlainMachine) (t : ℕ) (v : Value) (s : ThreadState) (e : Entry) (objects : List PlainObject)
    → IsMaker m t s → IsPaid m.program s (call.Print v) → is_call (call.Print v) e ≡ true
    → take_entry m.objects t e ≡ Some objects → After m t s (Calls (call.Print v)) e objects
print_entry m t v s (Print value) objects h paid fit takes =
    subst (WithObjects m t _) (same_Some _ _ takes) (call_alone m t s s (call.Print v) h paid (state_of m t s h) refl)
print_entry m t v s e objects h paid fit takes = absurd (false≢true fit)

dump_entry : (m : PlainMachine) (t k : ℕ) (s : ThreadState) (e : Entry) (objects : List PlainObject)
    → IsMaker m t s → IsPaid m.program s (call.Dump k) → is_call (call.Dump k) e ≡ true
    → take_entry m.objects t e ≡ Some objects → After m t s (Calls (call.Dump k)) e objects
dump_entry m t k s (Dump number) objects h paid fit takes =
    let st = state_of m t s h in
    subst (WithObjects m t _) (same_Some _ _ takes) (call_alone m t s (record s { dumps = k }) (call.Dump k) h paid
    (record { holds = st.holds; few = st.few; dumps = paid.call.1; locals = st.locals }) refl)
dump_entry m t k s e objects h paid fit takes = absurd (false≢true fit)

new_entry : (m : PlainMachine) (t x c : ℕ) (s : ThreadState) (e : Entry) (objects : List PlainObject) (made : List (List ℕ))
    → IsMaker m t s → IsPaid m.program s (call.New x c)
    → is_call (call.New x c) e ≡ true → made_after_entry m t e ≡ Some made
    → take_entry m.objects t e ≡ Some objects → After m t s (Calls (call.New x c)) e objects
new_entry m t x c s (New object class) objects made h paid fit makes takes =
    let st = state_of m t s h in
    let may = cond_some (may_create (numbering_of m.program) m.made t (object, class)) (grown m.made t class) made makes in
    let below = new_below m.program m.made t (object, class) paid.call.2 h.reached.row_count
    (creating (numbering_of m.program) m.made t (object, class) may.0) in
    let counted : IsStateOf m.program (record s { made = s.made + 1 }) = record { holds = st.holds; few = st.few; dumps = st.dumps; locals = st.locals } in
    subst (WithObjects m t _) (same_Some _ _ takes)
    (call_alone m t s (with_local (record s { made = s.made + 1 }) x (Ref object)) (call.New x c) h paid
    (set_state m.program (record s { made = s.made + 1 }) x (Ref object) counted (below, tt)) refl)
new_entry m t x c s e objects made h paid fit makes takes = absurd (false≢true fit)

leave_entry : (m : PlainMachine) (t o : ℕ) (s : ThreadState) (e : Entry) (objects : List PlainObject)
    → IsMaker m t s → IsLeft m.program s o → is_exit o e ≡ true
    → take_entry m.objects t e ≡ Some objects → After m t s (Leaves o) e objects
leave_entry m t o s (Exit k) objects h left fit takes =
    let r = taken_there m o k t (Exit k) objects fit takes in
    subst (WithObjects m t _) r.is (leave_kind m t o s r.x r.y h left (exit_step m t o k r.x r.y h.reached r.there r.takes))
leave_entry m t o s e objects h left fit takes = absurd (false≢true fit)

-- the end of a thread names no object
ends_unnamed : (g : Ending) (e : Entry) → is_ending g e ≡ true → named e ≡ None
ends_unnamed (ending.Trap f i) (Trap fault index) h = refl
ends_unnamed ending.Spent Spent h = refl
ends_unnamed ending.Done Done h = refl
ends_unnamed g e h = absurd (false≢true h)

end_entry : (m : PlainMachine) (t : ℕ) (g : Ending) (s : ThreadState) (e : Entry) (objects : List PlainObject)
    → IsMaker m t s → IsLast s g → is_ending g e ≡ true
    → take_entry m.objects t e ≡ Some objects → After m t s (Ends g) e objects
end_entry m t g s e objects h last fit takes =
    let unnamed : take_named m.objects t e None ≡ Some objects =
    subst (λ (o : Option ℕ). take_named m.objects t e o ≡ Some objects) (ends_unnamed g e fit) takes in
    subst (WithObjects m t (record s { mode = Ended g })) (same_Some _ _ unnamed) (end_kind m t s g h last)

call_entry : (m : PlainMachine) (t : ℕ) (s : ThreadState) (c : MonitorCall) (e : Entry) (objects : List PlainObject) (made_then : List (List ℕ))
    → IsMaker m t s → IsPaid m.program s c
    → is_call c e ≡ true → made_after_entry m t e ≡ Some made_then → take_entry m.objects t e ≡ Some objects → After m t s (Calls c) e objects
call_entry m t s (call.Enter o) e objects made_then h paid fit makes takes = enter_entry m t o s e objects h paid fit takes
call_entry m t s (call.Exit o) e objects made_then h paid fit makes takes = exit_entry m t o s e objects h paid fit takes
call_entry m t s (call.Wait o) e objects made_then h paid fit makes takes = wait_entry m t o s e objects h paid fit takes
call_entry m t s (call.Notify o) e objects made_then h paid fit makes takes = notify_entry m t o s e objects h paid fit takes
call_entry m t s (call.NotifyAll o) e objects made_then h paid fit makes takes = notify_all_entry m t o s e objects h paid fit takes
call_entry m t s (call.Get x o k) e objects made_then h paid fit makes takes = get_entry m t x o k s e objects h paid fit takes
call_entry m t s (call.Put o k v) e objects made_then h paid fit makes takes = put_entry m t o k v s e objects h paid fit takes
call_entry m t s (call.Hash x o) e objects made_then h paid fit makes takes = hash_entry m t x o s e objects h paid fit takes
call_entry m t s (call.New x c) e objects made_then h paid fit makes takes = new_entry m t x c s e objects made_then h paid fit makes takes
call_entry m t s (call.Print v) e objects made_then h paid fit makes takes = print_entry m t v s e objects h paid fit takes
call_entry m t s (call.Dump k) e objects made_then h paid fit makes takes = dump_entry m t k s e objects h paid fit takes

asked_entry : (m : PlainMachine) (t : ℕ) (s : ThreadState) (a : NextEntry) (e : Entry) (objects : List PlainObject) (made_then : List (List ℕ))
    → IsMaker m t s → IsAskedOf m.program s a
    → fits a e ≡ true → made_after_entry m t e ≡ Some made_then → take_entry m.objects t e ≡ Some objects → After m t s a e objects
asked_entry m t s (Calls c) e objects made_then h asked fit makes takes = call_entry m t s c e objects made_then h asked fit makes takes
asked_entry m t s (Resumes o) e objects made_then h asked fit makes takes = resume_entry m t o s e objects h asked fit takes
asked_entry m t s (Leaves o) e objects made_then h asked fit makes takes = leave_entry m t o s e objects h asked fit takes
asked_entry m t s (Ends g) e objects made_then h asked fit makes takes = end_entry m t g s e objects h asked fit takes

-- a machine is reached from another, and has less work
pub record IsAfter (m next : PlainMachine) : Type 0 where
  pub reached : IsReached next
  pub work : work_left next < work_left m

is_after : (m : PlainMachine) (p : ProgramText) (objects : List PlainObject) (made : List (List ℕ)) (threads : List ThreadState)
    → IsWell p objects threads → IsMadeAfter p objects made threads
    → IsReached (record { program = p; objects = objects; made = made; threads = threads })
is_after m p objects made threads w b = record {
  program = w.program;
  thread_count = w.thread_count;
  object_count = w.object_count;
  threads = w.threads;
  slots = w.slots;
  hashes = w.hashes;
  monitors = w.monitors;
  standing = w.standing;
  row_count = b.row_count;
  rows = b.rows;
  made = b.made;
  references = b.references;
  slot_references = b.slot_references;
}

-- an entry that a reached machine takes
pub progress : (m next : PlainMachine) (t : ℕ) (e : Entry) → IsReached m → take m t e ≡ Some next → IsAfter m next
progress m next t e h takes =
    let k = taken m t e next takes in
    let maker : IsMaker m t k.s = record { reached = h; at = k.at } in
    let asked = asked_of m.program k.s k.asked (thread_of m t k.s maker) k.asks in
    let step = asked_entry m t k.s k.asked e k.objects k.made_then maker asked k.fit k.makes k.takes in
    let threads : List ThreadState = slice_set m.threads t (after_entry m.program (code_of m.program t) k.s k.asked e) in
    subst (IsAfter m) k.is (record {
      reached = is_after m m.program k.objects k.made_then threads step.well (all_made_after_entry m next t e h k);
      work = step.work;
    })
