-- What an entry tells of the thread that makes it.
use Rattle.std.proofs.Common.{◌≡◌, inl, inr, ℕ, ◌+◌, ◌-◌, ◌<◌, ◌==◌, ◌&&◌, ◌||◌, not, Bool, true, false, if◌then◌else◌}
use Rattle.std.proofs.Common.{List, length, slice_set, slice_index, Option, Some, None, refl, sym, ap, ◌∙◌, subst}
use Rattle.std.proofs.Common.{arith, length-set, get_or-set_same, get_or-set_other, eqb-true, eq-eqb, ne_eqb}
use Rattle.std.proofs.lemmas.Bool.{false≢true, cases_eq}
use Rattle.std.proofs.lemmas.Option.{none-some, same_Some}
use Rattle.plain_monitor.specs.declared.entry.Entry.{Entry}
use Rattle.plain_monitor.specs.declared.entry.Entry.TheVariants.{Enter, Exit, Get, Put, Wait, Resume, Notify, NotifyAll}
use Rattle.plain_monitor.specs.declared.entry.Entry.TheVariants.{Hash, New, Print, Dump, Trap, Spent, Done}
use Rattle.plain_monitor.specs.declared.entry.Ending.{Ending}
use Rattle.plain_monitor.specs.declared.entry.Ending.TheVariants as ending
use Rattle.plain_monitor.specs.declared.entry.Value.{Value}
use Rattle.plain_history.specs.HeldByLog.{held_after}
use Rattle.wait_history.specs.WaitsByLog.{waits_after}
use Rattle.object_program.specs.declared.program.Code.{Code}
use Rattle.object_program.specs.Program.{ProgramText}
use Rattle.plain_machine.specs.declared.monitor_call.MonitorCall.{MonitorCall}
use Rattle.plain_machine.specs.declared.monitor_call.MonitorCall.TheVariants as call
use Rattle.plain_machine.specs.declared.monitor_call.Mode.{Mode}
use Rattle.plain_machine.specs.declared.monitor_call.Mode.TheVariants.{Calling, Waiting, Unwinding, Ended}
use Rattle.plain_machine.specs.declared.monitor_call.NextEntry.{NextEntry}
use Rattle.plain_machine.specs.declared.monitor_call.NextEntry.TheVariants.{Calls, Resumes, Leaves, Ends}
use Rattle.plain_machine.specs.Thread.{ThreadState, past, holds_of}
use Rattle.plain_machine.specs.Running.{run_on}
use Rattle.plain_machine.specs.Asking.{ask_in, unwinds, held_from, is_call, is_exit, is_resume, is_ending, fits}
use Rattle.plain_machine.specs.Asking.{holds_more, holds_less, answered, after_call, after_entry, thread_after}
use Rattle.plain_machine.specs.Machine.{is_live}
use Rattle.plain_machine.specs.Ready.{IsUnwinding, waits_on}
use Rattle.plain_machine.proofs.Unwinding.{unwinding_waits}
use Rattle.thread_logs.specs.Followed.{is_end, dumps_with}
use Rattle.thread_logs.proofs.Running.{DumpsNext, ThreadHasRun, has_run}
use Rattle.thread_logs.proofs.Entries.{has_made}

-- the mode of a thread that asks this
abbrev IsModeFor : Mode → NextEntry → Type 0
IsModeFor m (Calls c) = m ≡ Calling c
IsModeFor m (Resumes o) = m ≡ Waiting o
IsModeFor m (Leaves o) = IsUnwinding m
IsModeFor m (Ends e) = IsUnwinding m

unwinding_asks : (e : Ending) (held : Option ℕ) → IsModeFor (Unwinding e) (unwinds e held)
unwinding_asks e None = tt
unwinding_asks e (Some o) = tt

asking_mode : (s : ThreadState) (m : Mode) (a : NextEntry) → ask_in s m ≡ Some a → IsModeFor m a
asking_mode s (Calling c) a h = subst (IsModeFor (Calling c)) (same_Some _ _ h) refl
asking_mode s (Waiting o) a h = subst (IsModeFor (Waiting o)) (same_Some _ _ h) refl
asking_mode s (Unwinding e) a h =
    subst (IsModeFor (Unwinding e)) (same_Some _ _ h) (unwinding_asks e (held_from 0 s.holds))
asking_mode s (Ended e) a h = absurd (none-some a h)

asking_lives : (s : ThreadState) (m : Mode) (a : NextEntry) → ask_in s m ≡ Some a → is_live (record s { mode = m }) ≡ true
asking_lives s (Ended e) a h = absurd (none-some a h)
asking_lives s _ a h = refl

-- the thread after an entry stands as that tells
pub record IsTold (s next : ThreadState) (e : Entry) : Type 0 where
  pub count : length next.holds ≡ length s.holds
  pub holds : (o : ℕ) → o < length s.holds → holds_of next o ≡ held_after e (holds_of s) o
  pub waits : (o : ℕ) → waits_on next.mode o ≡ waits_after e (waits_on s.mode o) o
  pub ends : not (is_live next) ≡ is_end e
  pub dumps : next.dumps ≡ dumps_with e s.dumps
  pub next_dump : DumpsNext next.dumps next.mode

-- an entry that tells nothing of these
abbrev TellsNothing : Entry → Type 0
TellsNothing (Enter object path) = ⊥
TellsNothing (Exit object) = ⊥
TellsNothing (Wait object) = ⊥
TellsNothing (Resume object) = ⊥
TellsNothing (Dump number) = ⊥
TellsNothing (Trap fault index) = ⊥
TellsNothing Spent = ⊥
TellsNothing Done = ⊥
TellsNothing e = Unit {0}

record IsSilent (e : Entry) : Type 0 where
  holds : (f : ℕ → ℕ) (o : ℕ) → held_after e f o ≡ f o
  waits : (w : Bool) (o : ℕ) → waits_after e w o ≡ w
  ends : is_end e ≡ false
  dumps : (n : ℕ) → dumps_with e n ≡ n

silent : (e : Entry) → TellsNothing e → IsSilent e
silent (Enter object path) h = absurd h
silent (Exit object) h = absurd h
silent (Wait object) h = absurd h
silent (Resume object) h = absurd h
silent (Dump number) h = absurd h
silent (Trap fault index) h = absurd h
silent Spent h = absurd h
silent Done h = absurd h
silent e h = record { holds = λ f o. refl; waits = λ w o. refl; ends = refl; dumps = λ n. refl }

-- one number of a list is set
set_index : (holds : List ℕ) (o k n : ℕ) → k < length holds
    → slice_index (slice_set holds o n) k ≡ (if o == k then n else slice_index holds k)
set_index holds o k n l = elim (cases_eq o k) [
  | inl e ↦
      let here = subst (λ (i : ℕ). slice_index (slice_set holds i n) k ≡ n) (sym e) (get_or-set_same holds k n 0 l) in
      rw (eq-eqb o k e) here
  | inr d ↦ rw (ne_eqb o k d) (get_or-set_other holds o k n 0 (λ e. d (sym e)))
]

more_by : (b : Bool) (m n : ℕ) → (b ≡ true → m ≡ n) → (if b then m + 1 else n) ≡ n + (if b then 1 else 0)
more_by true m n h = let same = h refl in omega (arith, same)
more_by false m n h = omega arith

less_by : (b : Bool) (m n : ℕ) → (b ≡ true → m ≡ n) → (if b then m - 1 else n) ≡ n - (if b then 1 else 0)
less_by true m n h = let same = h refl in omega (arith, same)
less_by false m n h = omega arith

module _ (s : ThreadState) (o k : ℕ) (l : k < length s.holds) where
  same : (o == k) ≡ true → holds_of s o ≡ holds_of s k
  same e = ap (holds_of s) (eqb-true o k e)

  more_held : holds_of (holds_more s o) k ≡ holds_of s k + (if o == k then 1 else 0)
  more_held = set_index s.holds o k (holds_of s o + 1) l ∙ more_by (o == k) (holds_of s o) (holds_of s k) same

  less_held : holds_of (holds_less s o) k ≡ holds_of s k - (if o == k then 1 else 0)
  less_held = set_index s.holds o k (holds_of s o - 1) l ∙ less_by (o == k) (holds_of s o) (holds_of s k) same

module _ (p : ProgramText) (cs : List Code) (s : ThreadState) where
  -- after an answered call it runs on
  abbrev After : ThreadState → ThreadState
  After a = run_on p cs (s.fuel - 1) (past a)

  ran : (a : ThreadState) → ThreadHasRun a.holds a.dumps (After a)
  ran a = has_run p cs (s.fuel - 1) (past a)

  held_there : (a next : ThreadState) → next.holds ≡ a.holds → (o : ℕ) → holds_of next o ≡ holds_of a o
  held_there a next e o = ap (λ (xs : List ℕ). slice_index xs o) e

  -- a thread that stands before a call waits on nothing
  calling_waits : (c : MonitorCall) → s.mode ≡ Calling c → (o : ℕ) → waits_on s.mode o ≡ false
  calling_waits c at o = ap (λ m. waits_on m o) at

  silent_tells : (a : ThreadState) (c : MonitorCall) (e : Entry) → s.mode ≡ Calling c → a.holds ≡ s.holds → a.dumps ≡ s.dumps
      → TellsNothing e → IsTold s (After a) e
  silent_tells a c e at holds dumps nothing =
      let r = ran a in
      let quiet = silent e nothing in
      record {
        count = ap length (r.holds_stay ∙ holds);
        holds = λ o l. held_there s (After a) (r.holds_stay ∙ holds) o ∙ sym (quiet.holds (holds_of s) o);
        waits = λ o. r.awake o ∙ sym (calling_waits c at o) ∙ sym (quiet.waits (waits_on s.mode o) o);
        ends = ap not r.lives ∙ sym quiet.ends;
        dumps = r.dumps_stay ∙ dumps ∙ sym (quiet.dumps s.dumps);
        next_dump = r.next;
      }

  enter_tells : (o : ℕ) (e : Entry) → s.mode ≡ Calling (call.Enter o) → is_call (call.Enter o) e ≡ true
      → IsTold s (After (holds_more s o)) e
  enter_tells o (Enter k path) at fit =
      let r = ran (holds_more s o) in
      subst (λ (i : ℕ). IsTold s (After (holds_more s o)) (Enter i path)) (eqb-true o k fit) (record {
        count = ap length r.holds_stay ∙ length-set s.holds o (holds_of s o + 1);
        holds = λ i l. held_there (holds_more s o) (After (holds_more s o)) r.holds_stay i ∙ more_held s o i l;
        waits = λ i. r.awake i ∙ sym (calling_waits (call.Enter o) at i);
        ends = ap not r.lives;
        dumps = r.dumps_stay;
        next_dump = r.next;
      })
  enter_tells o e at fit = absurd (false≢true fit)

  exit_tells : (o : ℕ) (e : Entry) → s.mode ≡ Calling (call.Exit o) → is_call (call.Exit o) e ≡ true
      → IsTold s (After (holds_less s o)) e
  exit_tells o (Exit k) at fit =
      let r = ran (holds_less s o) in
      subst (λ (i : ℕ). IsTold s (After (holds_less s o)) (Exit i)) (eqb-true o k fit) (record {
        count = ap length r.holds_stay ∙ length-set s.holds o (holds_of s o - 1);
        holds = λ i l. held_there (holds_less s o) (After (holds_less s o)) r.holds_stay i ∙ less_held s o i l;
        waits = λ i. r.awake i ∙ sym (calling_waits (call.Exit o) at i);
        ends = ap not r.lives;
        dumps = r.dumps_stay;
        next_dump = r.next;
      })
  exit_tells o e at fit = absurd (false≢true fit)

  abbrev InWait : ℕ → ThreadState
  InWait o = record (past s) { fuel = s.fuel - 1; mode = Waiting o }

  wait_tells : (o : ℕ) (e : Entry) → s.mode ≡ Calling (call.Wait o) → is_call (call.Wait o) e ≡ true
      → IsTold s (InWait o) e
  wait_tells o (Wait k) at fit = subst (λ (i : ℕ). IsTold s (InWait o) (Wait i)) (eqb-true o k fit) (record {
    count = refl;
    holds = λ i l. refl;
    waits = λ i. ap (λ b. b || (o == i)) (sym (calling_waits (call.Wait o) at i));
    ends = refl;
    dumps = refl;
    next_dump = tt;
  })
  wait_tells o e at fit = absurd (false≢true fit)

  no_longer : (b : Bool) → false ≡ (b && not b)
  no_longer true = refl
  no_longer false = refl

  resume_tells : (o : ℕ) (e : Entry) → s.mode ≡ Waiting o → is_resume o e ≡ true → IsTold s (run_on p cs s.fuel s) e
  resume_tells o (Resume k) at fit =
      let r = has_run p cs s.fuel s in
      subst (λ (i : ℕ). IsTold s (run_on p cs s.fuel s) (Resume i)) (eqb-true o k fit) (record {
        count = ap length r.holds_stay;
        holds = λ i l. held_there s (run_on p cs s.fuel s) r.holds_stay i;
        waits = λ i. r.awake i ∙ no_longer (o == i) ∙ ap (λ m. waits_on m i && not (o == i)) (sym at);
        ends = ap not r.lives;
        dumps = r.dumps_stay;
        next_dump = r.next;
      })
  resume_tells o e at fit = absurd (false≢true fit)

  notify_tells : (o : ℕ) (e : Entry) → s.mode ≡ Calling (call.Notify o) → is_call (call.Notify o) e ≡ true
      → IsTold s (After s) e
  notify_tells o (Notify k woken) at fit = silent_tells s (call.Notify o) (Notify k woken) at refl refl tt
  notify_tells o e at fit = absurd (false≢true fit)

  notify_all_tells : (o : ℕ) (e : Entry) → s.mode ≡ Calling (call.NotifyAll o) → is_call (call.NotifyAll o) e ≡ true
      → IsTold s (After s) e
  notify_all_tells o (NotifyAll k many) at fit = silent_tells s (call.NotifyAll o) (NotifyAll k many) at refl refl tt
  notify_all_tells o e at fit = absurd (false≢true fit)

  get_tells : (x o k : ℕ) (e : Entry) → s.mode ≡ Calling (call.Get x o k) → is_call (call.Get x o k) e ≡ true
      → IsTold s (After (answered s (call.Get x o k) e)) e
  get_tells x o k (Get object slot value) at fit =
      let e = Get object slot value in
      silent_tells (answered s (call.Get x o k) e) (call.Get x o k) e at refl refl tt
  get_tells x o k e at fit = absurd (false≢true fit)

  put_tells : (o k : ℕ) (v : Value) (e : Entry) → s.mode ≡ Calling (call.Put o k v)
      → is_call (call.Put o k v) e ≡ true → IsTold s (After s) e
  put_tells o k v (Put object slot value) at fit =
      silent_tells s (call.Put o k v) (Put object slot value) at refl refl tt
  put_tells o k v e at fit = absurd (false≢true fit)

  hash_tells : (x o : ℕ) (e : Entry) → s.mode ≡ Calling (call.Hash x o) → is_call (call.Hash x o) e ≡ true
      → IsTold s (After (answered s (call.Hash x o) e)) e
  hash_tells x o (Hash object value drawn) at fit =
      let e = Hash object value drawn in
      silent_tells (answered s (call.Hash x o) e) (call.Hash x o) e at refl refl tt
  hash_tells x o e at fit = absurd (false≢true fit)

  new_tells : (x c : ℕ) (e : Entry) → s.mode ≡ Calling (call.New x c) → is_call (call.New x c) e ≡ true
      → IsTold s (After (answered s (call.New x c) e)) e
  new_tells x c (New object class) at fit =
      let e = New object class in
      silent_tells (answered s (call.New x c) e) (call.New x c) e at refl refl tt
  new_tells x c e at fit = absurd (false≢true fit)

  print_tells : (v : Value) (e : Entry) → s.mode ≡ Calling (call.Print v) → is_call (call.Print v) e ≡ true
      → IsTold s (After s) e
  print_tells v (Print value) at fit = silent_tells s (call.Print v) (Print value) at refl refl tt
  print_tells v e at fit = absurd (false≢true fit)

  dump_tells : (n : ℕ) (e : Entry) → s.mode ≡ Calling (call.Dump n) → DumpsNext s.dumps s.mode
      → is_call (call.Dump n) e ≡ true → IsTold s (After (record s { dumps = n })) e
  dump_tells n (Dump number) at next fit =
      let r = ran (record s { dumps = n }) in
      let is : n ≡ s.dumps + 1 = subst (DumpsNext s.dumps) at next in
      record {
        count = ap length r.holds_stay;
        holds = λ o l. held_there s (After (record s { dumps = n })) r.holds_stay o;
        waits = λ o. r.awake o ∙ sym (calling_waits (call.Dump n) at o);
        ends = ap not r.lives;
        dumps = r.dumps_stay ∙ is;
        next_dump = r.next;
      }
  dump_tells n e at next fit = absurd (false≢true fit)

  call_tells : (c : MonitorCall) (e : Entry) → s.mode ≡ Calling c → DumpsNext s.dumps s.mode → is_call c e ≡ true
      → IsTold s (after_call p cs s c e) e
  call_tells (call.Enter o) e at next fit = enter_tells o e at fit
  call_tells (call.Exit o) e at next fit = exit_tells o e at fit
  call_tells (call.Wait o) e at next fit = wait_tells o e at fit
  call_tells (call.Notify o) e at next fit = notify_tells o e at fit
  call_tells (call.NotifyAll o) e at next fit = notify_all_tells o e at fit
  call_tells (call.Get x o k) e at next fit = get_tells x o k e at fit
  call_tells (call.Put o k v) e at next fit = put_tells o k v e at fit
  call_tells (call.Hash x o) e at next fit = hash_tells x o e at fit
  call_tells (call.New x c) e at next fit = new_tells x c e at fit
  call_tells (call.Print v) e at next fit = print_tells v e at fit
  call_tells (call.Dump n) e at next fit = dump_tells n e at next fit

  leave_tells : (o : ℕ) (e : Entry) → is_live s ≡ true → DumpsNext s.dumps s.mode → is_exit o e ≡ true
      → IsTold s (holds_less s o) e
  leave_tells o (Exit k) lives next fit =
      subst (λ (i : ℕ). IsTold s (holds_less s o) (Exit i)) (eqb-true o k fit) (record {
        count = length-set s.holds o (holds_of s o - 1);
        holds = less_held s o;
        waits = λ i. refl;
        ends = ap not lives;
        dumps = refl;
        next_dump = next;
      })
  leave_tells o e lives next fit = absurd (false≢true fit)

  -- an entry that only ends the thread
  abbrev HasEnded : Ending → Entry → Type 0
  HasEnded g e = IsTold s (record s { mode = Ended g }) e

  awake : IsUnwinding s.mode → (o : ℕ) → false ≡ waits_on s.mode o
  awake unwinding o = sym (unwinding_waits s.mode o unwinding)

  end_tells : (g : Ending) (e : Entry) → IsUnwinding s.mode → is_ending g e ≡ true → HasEnded g e
  end_tells (ending.Trap f i) (Trap fault index) u fit =
      record { count = refl; holds = λ o l. refl; waits = awake u; ends = refl; dumps = refl; next_dump = tt }
  end_tells ending.Spent Spent u fit =
      record { count = refl; holds = λ o l. refl; waits = awake u; ends = refl; dumps = refl; next_dump = tt }
  end_tells ending.Done Done u fit =
      record { count = refl; holds = λ o l. refl; waits = awake u; ends = refl; dumps = refl; next_dump = tt }
  end_tells g e u fit = absurd (false≢true fit)

  asked_tells : (a : NextEntry) (e : Entry) → IsModeFor s.mode a → is_live s ≡ true → DumpsNext s.dumps s.mode
      → fits a e ≡ true → IsTold s (after_entry p cs s a e) e
  asked_tells (Calls c) e at lives next fit = call_tells c e at next fit
  asked_tells (Resumes o) e at lives next fit = resume_tells o e at fit
  asked_tells (Leaves o) e at lives next fit = leave_tells o e lives next fit
  asked_tells (Ends g) e at lives next fit = end_tells g e at fit

  -- an entry that the thread makes
  pub lived : (next : ThreadState) (e : Entry) → thread_after p cs s e ≡ Some next → is_live s ≡ true
  lived next e takes = let m = has_made p cs s next e takes in asking_lives s s.mode m.asked m.asks

  pub told : (next : ThreadState) (e : Entry) → DumpsNext s.dumps s.mode → thread_after p cs s e ≡ Some next
      → IsTold s next e
  told next e dump takes =
      let m = has_made p cs s next e takes in
      let mode = asking_mode s s.mode m.asked m.asks in
      subst (λ x. IsTold s x e) m.is (asked_tells m.asked e mode (lived next e takes) dump m.fit)
