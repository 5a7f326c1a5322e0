-- No thread of the code of a program with blocks faults at an exit, and one that comes to its `end` holds nothing.
use Rattle.std.proofs.Common.{eqb-true, ◌≡◌, ◌≢◌, ◌⊎◌, inl, inr, ℕ, zero, suc, ◌+◌, ◌-◌, ◌<◌, ◌≤◌, ◌==◌, Bool, true, false, if◌then◌else◌}
use Rattle.std.proofs.Common.{List, [], ◌∷◌, map, length, replicate, slice_get, slice_set, slice_index, slice_index_or, Option, Some, None}
use Rattle.std.proofs.Common.{option_and_then, refl, sym, ap, ◌∙◌, subst, arith, eq-eqb, ne_eqb, get_or-set_same, get_or-set_other}
use Rattle.std.specs.List.{AllByRecursion}
use Rattle.std.proofs.lemmas.Bool.{cases_eq}
use Rattle.std.proofs.lemmas.Option.{none-some, same_Some}
use Rattle.plain_monitor.proofs.Lists.{all_at, all_weaker}
use Rattle.plain_monitor.specs.declared.entry.Value.{Value}
use Rattle.plain_monitor.specs.declared.entry.Fault.{Fault}
use Rattle.plain_monitor.specs.declared.entry.Ending.{Ending}
use Rattle.plain_monitor.specs.declared.entry.Ending.TheVariants as ending
use Rattle.plain_monitor.specs.declared.entry.Entry.{Entry}
use Rattle.plain_monitor.specs.declared.entry.Entry.TheVariants as entry
use Rattle.plain_monitor.specs.declared.entry.Logged.{Logged}
use Rattle.plain_monitor.specs.Order.{order}
use Rattle.object_program.specs.declared.program.ClassDef.{ClassDef}
use Rattle.object_program.specs.declared.program.ObjectDef.{ObjectDef}
use Rattle.object_program.specs.declared.program.ThreadDef.{ThreadDef}
use Rattle.object_program.specs.declared.program.Code.{Code}
use Rattle.object_program.specs.declared.program.Code.TheVariants as instr
use Rattle.object_program.specs.Program.{ProgramText, objects_total}
use Rattle.plain_machine.specs.declared.monitor_call.MonitorCall.{MonitorCall}
use Rattle.plain_machine.specs.declared.monitor_call.MonitorCall.TheVariants as call
use Rattle.plain_machine.specs.declared.monitor_call.Mode.{Mode}
use Rattle.plain_machine.specs.declared.monitor_call.Mode.TheVariants.{Calling, Waiting, Unwinding, Ended}
use Rattle.plain_machine.specs.declared.monitor_call.NextEntry.{NextEntry}
use Rattle.plain_machine.specs.declared.monitor_call.NextEntry.TheVariants as asked
use Rattle.plain_machine.specs.Thread.{ThreadState, Step, Goes, Calls, Stops, past, step_of, holds_of, with_local}
use Rattle.plain_machine.specs.Running.{instruction_at, after_step, run_on, first_state}
use Rattle.plain_machine.specs.Asking.{holds_more, holds_less, after_call, after_entry}
use Rattle.plain_machine.specs.Machine.{PlainMachine, new_machine, code_of, take}
use Rattle.plain_machine.specs.Legal.{after_all, machine_after}
use Rattle.machine_laws.specs.Reached.{IsReached}
use Rattle.machine_laws.specs.ReachedThread.{IsThreadOf}
use Rattle.machine_laws.proofs.ReachedAsked.{IsAskedOf, asked_of, taken}
use Rattle.machine_laws.proofs.ReachedFirst.{first_is_reached}
use Rattle.machine_laws.proofs.ReachedEntries.{progress}
use Rattle.machine_laws.proofs.ReachedLists.{each_set}
use Rattle.machine_laws.specs.Reached.{AtEach}
use Rattle.sync_source.specs.declared.source.Test.{Test}
use Rattle.sync_source.specs.Source.{Nothing, Plain, Sync, If, While, SyncText, SyncThreadText}
use Rattle.sync_source.specs.Valid.{IsPlain, IsSyncText}
use Rattle.sync_source.specs.SyncThread.{unplaced, Left, Over, Runs, Exits, Pays, SyncStep, GoesOn, StandsBefore, StopsBy}
use Rattle.sync_source.specs.Compiled.{test_code, code_at, thread_code, compiled}
use Rattle.sync_source.specs.Endings.{ending_begun}
use Rattle.sync_source.specs.inner.Alike.{ArePlain, StandsInCode, erased}
use Rattle.plain_monitor.specs.Order.{of_thread}
use Rattle.plain_monitor.specs.History.{log_of}
use Rattle.plain_monitor.proofs.Threads.{thread_kept}
use Rattle.plain_machine.specs.Legal.{IsLegal}
use Rattle.sync_source.proofs.Traps.{trapped}
use Rattle.sync_source.proofs.Same.{is_there}
use Rattle.sync_source.proofs.Steps.{IsAt}
use Rattle.sync_source.proofs.Units.{StepAlike, step_alike}
use Rattle.std.specs.Prelude.{decimal}
use Rattle.sync_source.proofs.Names.{are_plain, compiled_is_program}
use Rattle.sync_source.proofs.Starts.{stands_first}
use Rattle.sync_source.proofs.OpenSyncs.{open_in, IsKept, IsReadyFor, IsGuarded, body_guarded, IsFreeAt}
use Rattle.sync_source.proofs.OpenSyncs.{Spares, held_after, StepKept, unit_kept, exit_calls, open_aside}

-- the instruction that a trap names is no exit
abbrev NamesNoExit : List Code → Ending → Type 0
NamesNoExit code (ending.Trap f i) = (place x : ℕ) → i ≡ place + 1 → instruction_at code place ≡ instr.Exit x → ⊥
NamesNoExit code ending.Spent = Unit {0}
NamesNoExit code ending.Done = Unit {0}

-- a thread in this mode: where it goes on, it keeps what is left; it doesn't end at an exit, and at its end it holds nothing
abbrev IsFineIn : List Code → ThreadState → Mode → Type 0
IsFineIn code s (Calling c) = (left : Left) × StandsInCode code (s.place + 1) left × IsReadyFor s c left
IsFineIn code s (Waiting o) = (left : Left) × StandsInCode code s.place left × IsKept left s.locals (holds_of s)
IsFineIn code s (Unwinding e) = NamesNoExit code e × IsFreeAt s.holds e
IsFineIn code s (Ended e) = NamesNoExit code e × IsFreeAt s.holds e

abbrev IsFine : List Code → ThreadState → Type 0
IsFine code s = IsFineIn code s s.mode

test_no_exit : (t : Test) (to x : ℕ) → test_code t to ≡ instr.Exit x → ⊥
test_no_exit t to x h = go t.equal h
  where
    go : (equal : Bool) → (if equal then instr.Jeq t.x t.y (to + 1) else instr.Jlt t.x t.y (to + 1)) ≡ instr.Exit x → ⊥
    go true e = cc
    go false e = cc

-- an exit at which a thread stands is a call
exit_goes : (p : ProgramText) (code : List Code) (s : ThreadState) (left : Left) (x : ℕ) (e : Ending) → StandsInCode code s.place left
    → IsKept left s.locals (holds_of s) → instruction_at code s.place ≡ instr.Exit x → step_of p s (instruction_at code s.place) ≡ Stops e → ⊥
exit_goes p code s Over x e h k at stops = let other : instr.End ≡ instr.Exit x = sym h ∙ at in cc
exit_goes p code s (Runs Nothing left) x e h k at stops =
    let same : s.place + 0 ≡ s.place = omega arith in
    exit_goes p code s left x e (subst (λ (i : ℕ). StandsInCode code i left) same h.2) (record { keeps = k.keeps.2; opened = k.opened }) at stops
exit_goes p code s (Runs (Plain c r) left) x e h k at stops =
    subst IsPlain (sym h.1.0 ∙ at) h.0.0
exit_goes p code s (Runs (Sync y b r) left) x e h k at stops =
    let other : instr.Enter y ≡ instr.Exit x = sym h.1.0 ∙ at in cc
exit_goes p code s (Runs (If t b c r) left) x e h k at stops = test_no_exit t _ x (sym h.1.0 ∙ at)
exit_goes p code s (Runs (While t b r) left) x e h k at stops = test_no_exit t _ x (sym h.1.0 ∙ at)
exit_goes p code s (Exits y left) x e h k at stops =
    let calls = ap (λ c. step_of p s c) h.0 ∙ (exit_calls p s y (open_in left) k.opened).calls in
    let other : Calls (call.Exit (exit_calls p s y (open_in left) k.opened).object) ≡ Stops e = sym calls ∙ stops in
    cc
exit_goes p code s (Pays left) x e h k at stops =
    let other : instr.Jump (h.0 + 1) ≡ instr.Exit x = sym h.1 ∙ at in cc

module _ (code : List Code) (classes : List ClassDef) (objects : List ObjectDef) (ts : List ThreadDef) where
  abbrev p : ProgramText
  p = record { classes = classes; objects = objects; threads = ts }

  names_no_exit : (s : ThreadState) (left : Left) (e : Ending) → StandsInCode code s.place left
      → IsKept left s.locals (holds_of s) → IsAt s.place e → step_of p s (instruction_at code s.place) ≡ Stops e → NamesNoExit code e
  names_no_exit s left (ending.Trap f i) h k at stops = here
    where
      here : (place x : ℕ) → i ≡ place + 1 → instruction_at code place ≡ instr.Exit x → ⊥
      here place x is exit =
          let same : s.place ≡ place = omega (arith, at, is) in
          exit_goes p code s left x (ending.Trap f i) h k (ap (instruction_at code) same ∙ exit) stops
  names_no_exit s left ending.Spent h k at stops = tt
  names_no_exit s left ending.Done h k at stops = tt

  after_fine : (n : ℕ) (s : ThreadState) (u : SyncStep) (a : Step) → StepAlike code s u a → StepKept (erased s) u
      → ((e : Ending) → IsAt s.place e → a ≡ Stops e → NamesNoExit code e) → ((left : Left) (next : ThreadState) → StandsInCode code next.place left
      → IsKept left next.locals (holds_of next) → IsFine code (run_on p code n next)) → IsFine code (after_step s n a (λ next. run_on p code n next))
  after_fine n s (GoesOn left t) (Goes next) h k stop go =
      go left next h.1 (subst (λ (x : ThreadState). IsKept left x.locals (holds_of x)) h.0 k)
  after_fine n s (GoesOn left t) (Calls d) h k stop go = absurd h
  after_fine n s (GoesOn left t) (Stops f) h k stop go = absurd h
  after_fine n s (StandsBefore c left) (Goes next) h k stop go = absurd h
  after_fine n s (StandsBefore c left) (Calls d) h k stop go =
      let ready : IsReadyFor (erased s) d left = subst (λ (x : MonitorCall). IsReadyFor (erased s) x left) h.0 k in
      (left, h.1, before d ready)
    where
      before : (d : MonitorCall) → IsReadyFor (erased s) d left → IsReadyFor (record s { fuel = n + 1; mode = Calling d }) d left
      before (call.Enter o) r = record { spares = r.spares; kept = r.kept }
      before (call.Exit o) r = record { spares = r.spares; kept = r.kept }
      before (call.Wait o) r = record { spares = r.spares; kept = r.kept }
      before (call.Notify o) r = record { spares = r.spares; kept = r.kept }
      before (call.NotifyAll o) r = record { spares = r.spares; kept = r.kept }
      before (call.Get x o k) r = record { spares = r.spares; kept = r.kept }
      before (call.Put o k v) r = record { spares = r.spares; kept = r.kept }
      before (call.Hash x o) r = record { spares = r.spares; kept = r.kept }
      before (call.New x c) r = record { spares = r.spares; kept = r.kept }
      before (call.Print v) r = record { spares = r.spares; kept = r.kept }
      before (call.Dump m) r = record { spares = r.spares; kept = r.kept }
  after_fine n s (StandsBefore c left) (Stops f) h k stop go = absurd h
  after_fine n s (StopsBy e) (Goes next) h k stop go = absurd h
  after_fine n s (StopsBy e) (Calls d) h k stop go = absurd h
  after_fine n s (StopsBy e) (Stops f) h k stop go = (stop f h.1 refl, free f (subst (IsFreeAt s.holds) h.0 k))
    where
      free : (f : Ending) → IsFreeAt s.holds (unplaced f) → IsFreeAt s.holds f
      free (ending.Trap g i) h = tt
      free ending.Spent h = tt
      free ending.Done h = h

  -- a thread that keeps what is left runs on so
  run_fine : (n : ℕ) (left : Left) (s : ThreadState) → StandsInCode code s.place left → IsKept left s.locals (holds_of s) → IsFine code (run_on p code n s)
  unfolding run_on
  run_fine zero left s h k = (tt, tt)
  run_fine (suc n) left s h k =
      after_fine n s _ _ (step_alike code classes objects ts ts refl left s h) (unit_kept p (erased s) left k)
      (λ e at stops. names_no_exit s left e h k at stops) (λ l next i j. run_fine n l next i j)

  -- it runs on so from the answer to its call
  answer_fine : (s a : ThreadState) (left : Left) (n : ℕ) → a.place ≡ s.place → StandsInCode code (s.place + 1) left
      → IsKept left a.locals (holds_of a) → IsFine code (run_on p code n (past a))
  answer_fine s a left n same h k = run_fine n left (past a) (subst (λ (i : ℕ). StandsInCode code (i + 1) left) (sym same) h) k

-- holds after an enter, and after an exit, of an object that is there
more_holds : (s : ThreadState) (i o : ℕ) → i < length s.holds → holds_of (holds_more s i) o ≡ held_after s (call.Enter i) o
more_holds s i o h = go (cases_eq i o)
  where
    go : (i ≡ o) ⊎ (i ≢ o) → holds_of (holds_more s i) o ≡ holds_of s o + (if i == o then 1 else 0)
    go (inl same) =
        let one : ◌≡◌ {A = ℕ} (if i == o then 1 else 0) 1 = ap (λ (b : Bool). let n : ℕ = if b then 1 else 0 in n) (eq-eqb i o same) in
        let set = ap (λ (k : ℕ). slice_index (slice_set s.holds i (holds_of s i + 1)) k) (sym same) ∙ get_or-set_same s.holds i (holds_of s i + 1) 0 h in
        let own : holds_of s i ≡ holds_of s o = ap (holds_of s) same in
        omega (arith, one, set, own)
    go (inr other) =
        let none : ◌≡◌ {A = ℕ} (if i == o then 1 else 0) 0 = ap (λ (b : Bool). let n : ℕ = if b then 1 else 0 in n) (ne_eqb i o other) in
        let set = get_or-set_other s.holds i o (holds_of s i + 1) 0 (λ e. other (sym e)) in
        omega (arith, none, set)

less_holds : (s : ThreadState) (i o : ℕ) → i < length s.holds → holds_of (holds_less s i) o ≡ held_after s (call.Exit i) o
less_holds s i o h = go (cases_eq i o)
  where
    go : (i ≡ o) ⊎ (i ≢ o) → holds_of (holds_less s i) o ≡ holds_of s o - (if i == o then 1 else 0)
    go (inl same) =
        let one : ◌≡◌ {A = ℕ} (if i == o then 1 else 0) 1 = ap (λ (b : Bool). let n : ℕ = if b then 1 else 0 in n) (eq-eqb i o same) in
        let set = ap (λ (k : ℕ). slice_index (slice_set s.holds i (holds_of s i - 1)) k) (sym same) ∙ get_or-set_same s.holds i (holds_of s i - 1) 0 h in
        let own : holds_of s i ≡ holds_of s o = ap (holds_of s) same in
        omega (arith, one, set, own)
    go (inr other) =
        let none : ◌≡◌ {A = ℕ} (if i == o then 1 else 0) 0 = ap (λ (b : Bool). let n : ℕ = if b then 1 else 0 in n) (ne_eqb i o other) in
        let set = get_or-set_other s.holds i o (holds_of s i - 1) 0 (λ e. other (sym e)) in
        omega (arith, none, set)

-- the same open `sync`s beside holds that are equal
same_open : (left : Left) (locals : List Value) (h k : ℕ → ℕ) → ((o : ℕ) → k o ≡ h o) → IsKept left locals h → IsKept left locals k
same_open left locals h k same kept =
    record {
      keeps = kept.keeps;
      opened = record { refer = kept.opened.refer; held = λ o. let l = kept.opened.held o in let e = same o in omega (arith, l, e) };
    }

given_fine : (s : ThreadState) (x : ℕ) (v : Value) (left : Left) → Spares (open_in left) (call.Hash x 0)
    → IsKept left s.locals (holds_of s) → IsKept left (with_local s x v).locals (holds_of (with_local s x v))
given_fine s x v left h k = record { keeps = k.keeps; opened = open_aside s.locals x v (open_in left) (holds_of s) h k.opened }

module _ (code : List Code) (classes : List ClassDef) (objects : List ObjectDef) (ts : List ThreadDef) where
  abbrev p' : ProgramText
  p' = record { classes = classes; objects = objects; threads = ts }

  goes_on : (s a : ThreadState) (left : Left) → a.place ≡ s.place → StandsInCode code (s.place + 1) left
      → IsKept left a.locals (holds_of a) → IsFine code (run_on p' code (s.fuel - 1) (past a))
  goes_on s a left e h k = answer_fine code classes objects ts s a left (s.fuel - 1) e h k

  -- after a call of an object that is there, if it names one
  call_fine : (s : ThreadState) (c : MonitorCall) (e : Entry) (left : Left) → IsAskedOf p' s (asked.Calls c)
      → length s.holds ≡ objects_total p' → StandsInCode code (s.place + 1) left → IsReadyFor s c left → IsFine code (after_call p' code s c e)
  call_fine s (call.Enter o) e left a n h r =
      let there : o < length s.holds = omega (arith, a.call.0, n) in
      goes_on s (holds_more s o) left refl h (same_open left s.locals _ _ (λ k. more_holds s o k there) r.kept)
  call_fine s (call.Exit o) e left a n h r =
      let there : o < length s.holds = omega (arith, a.call.0, n) in
      goes_on s (holds_less s o) left refl h (same_open left s.locals _ _ (λ k. less_holds s o k there) r.kept)
  call_fine s (call.Wait o) e left a n h r = (left, h, r.kept)
  call_fine s (call.Get x o k) (entry.Get object slot value) left a n h r =
      goes_on s (with_local s x value) left refl h (given_fine s x value left r.spares r.kept)
  call_fine s (call.Hash x o) (entry.Hash object value drawn) left a n h r =
      goes_on s (with_local s x _) left refl h (given_fine s x _ left r.spares r.kept)
  call_fine s (call.New x c) (entry.New object class) left a n h r =
      goes_on s (with_local (record s { made = s.made + 1 }) x _) left refl h
      (given_fine (record s { made = s.made + 1 }) x _ left r.spares r.kept)
  call_fine s (call.Dump m) e left a n h r = goes_on s (record s { dumps = m }) left refl h r.kept
  call_fine s _ e left a n h r = goes_on s s left refl h r.kept

  -- after an entry that it asked for
  entry_fine : (s : ThreadState) (a : NextEntry) (e : Entry) → IsThreadOf p' s → IsAskedOf p' s a → IsFine code s → IsFine code (after_entry p' code s a e)
  entry_fine s (asked.Calls c) e is a h =
      let f : IsFineIn code s (Calling c) = subst (IsFineIn code s) a.mode h in
      call_fine s c e f.0 a is.state.holds f.1 f.2
  entry_fine s (asked.Resumes o) e is a h =
      let f : IsFineIn code s (Waiting o) = subst (IsFineIn code s) a.mode h in
      run_fine code classes objects ts s.fuel f.0 s f.1 f.2
  entry_fine s (asked.Leaves o) e is a h = left_fine s.mode a.ending a.mode a.held.1 h
    where
      free : (g : Ending) → 1 ≤ holds_of s o → IsFreeAt s.holds g → IsFreeAt (holds_less s o).holds g
      free (ending.Trap g i) l h = tt
      free ending.Spent l h = tt
      free ending.Done l h = absurd (omega (arith, h o, l))

      left_fine : (m : Mode) (g : Ending) → m ≡ Unwinding g → 1 ≤ holds_of s o → IsFineIn code s m → IsFineIn code (holds_less s o) m
      left_fine (Unwinding g') g e l f = (f.0, free g' l f.1)
      left_fine _ g e l f = absurd (cc)
  entry_fine s (asked.Ends g) e is a h = subst (IsFineIn code s) a.mode h

-- where something follows from what is there, it is there
first_some : {A B : Type 0} (f : A → Option B) (o : Option A) (y : B) → option_and_then f o ≡ Some y → (x : A) × (o ≡ Some x) × (f x ≡ Some y)
first_some f None y e = absurd (none-some y e)
first_some f (Some x) y e = (x, refl, e)

-- all threads of the machine are fine
abbrev AreFine : PlainMachine → Type 0
AreFine m = AtEach (λ t s. IsFine (code_of m.program t) s) m.threads

-- after one entry
take_fine : (m next : PlainMachine) (t : ℕ) (e : Entry) → IsReached m → AreFine m → take m t e ≡ Some next → AreFine next
take_fine m next t e reached fine h =
    let k = taken m t e next h in
    let is : IsThreadOf m.program k.s = all_at (IsThreadOf m.program) m.threads t k.s reached.threads k.at in
    let a = asked_of m.program k.s k.asked is k.asks in
    let here = entry_fine (code_of m.program t) m.program.classes m.program.objects m.program.threads k.s k.asked e is a (fine t k.s k.at) in
    subst AreFine k.is (each_set (λ u s. IsFine (code_of m.program u) s) m.threads t k.s _ k.at here (λ u s other at. fine u s at))

-- after all entries
all_fine : (xs : List (ℕ × Logged)) (m last : PlainMachine) → IsReached m → AreFine m → after_all m xs ≡ Some last → AreFine last
all_fine [] m last reached fine h = subst AreFine (same_Some m last h) fine
all_fine (x ∷ xs) m last reached fine h =
    let a = first_some (λ next. after_all next xs) (take m x.0 x.1.entry) last h in
    all_fine xs a.0 last (progress m a.0 x.0 x.1.entry reached a.1).reached (take_fine m a.0 x.0 x.1.entry reached fine a.1) a.2

-- at first nothing is held
none_held : (n o : ℕ) → 0 ≡ slice_index (replicate n 0) o
none_held zero o = refl
none_held (suc n) zero = refl
none_held (suc n) (suc o) = none_held n o

module _ (decimal : ℕ → List ℕ) (p : SyncText) (fuel : ℕ) where
  start_fine : (t : SyncThreadText) → ArePlain t.body → IsGuarded [] t.body
      → IsFine (code_at 0 t.body) (first_state (compiled decimal p) (thread_code decimal t) fuel)
  start_fine t plain keeps =
      run_fine (code_at 0 t.body) p.classes p.objects (map (thread_code decimal) p.threads) fuel (Runs t.body Over) _ (stands_first t.body plain)
      (record { keeps = (plain, keeps, tt); opened = record { refer = tt; held = λ o. none_held (objects_total (compiled decimal p)) o } })

  starts_fine : (ts : List SyncThreadText) → AllByRecursion (λ t. ArePlain t.body × IsGuarded [] t.body) ts → (t : ℕ) (s : ThreadState)
      → slice_get (map (λ x. first_state (compiled decimal p) x fuel) (map (thread_code decimal) ts)) t ≡ Some s
      → IsFine (slice_index_or (map (λ d. d.code) (map (thread_code decimal) ts)) t []) s
  starts_fine [] h t s e = absurd (none-some s e)
  starts_fine (x ∷ ts) h zero s e = subst (IsFine (code_at 0 x.body)) (same_Some _ s e) (start_fine x h.0.0 h.0.1)
  starts_fine (x ∷ ts) h (suc t) s e = starts_fine ts h.1 t s e

-- a thread that is fine and has begun to end
begun_fine : (code : List Code) (s : ThreadState) (m : Mode) (e : Ending)
    → IsFineIn code s m → ending_begun m ≡ Some e → NamesNoExit code e × IsFreeAt s.holds e
begun_fine code s (Calling c) e h k = absurd (none-some e k)
begun_fine code s (Waiting o) e h k = absurd (none-some e k)
begun_fine code s (Unwinding g) e h k = subst (λ (x : Ending). NamesNoExit code x × IsFreeAt s.holds x) (same_Some g e k) h
begun_fine code s (Ended g) e h k = subst (λ (x : Ending). NamesNoExit code x × IsFreeAt s.holds x) (same_Some g e k) h

guarded : (p : SyncText) → IsSyncText p → AllByRecursion (λ t. ArePlain t.body × IsGuarded [] t.body) p.threads
guarded p h =
    all_weaker _ _ (λ t k. (
      are_plain (length p.classes) (length t.locals) (length p.objects) t.body k.body,
      body_guarded t.body k.keeps k.ends,
    )) p.threads h.threads

-- the machine that legal logs lead to
fine_after : (p : SyncText) (fuel : ℕ) (logs : List (List Logged)) (m : PlainMachine)
    → IsSyncText p → machine_after (compiled decimal p) fuel logs ≡ Some m → AreFine m
fine_after p fuel logs m h after =
    all_fine (order logs) (new_machine (compiled decimal p) fuel) m
    (first_is_reached (compiled decimal p) fuel (compiled_is_program p h)) (starts_fine decimal p fuel p.threads (guarded p h)) after

pub no_exit_faults : (p : SyncText) (fuel : ℕ) (logs : List (List Logged)) (m : PlainMachine) (t place x : ℕ) (s : ThreadState) (f : Fault)
    → IsSyncText p → machine_after (compiled decimal p) fuel logs ≡ Some m → slice_get m.threads t ≡ Some s
    → ending_begun s.mode ≡ Some (ending.Trap f (place + 1)) → instruction_at (code_of m.program t) place ≡ instr.Exit x → ⊥
no_exit_faults p fuel logs m t place x s f h after at begun exit =
    let names = begun_fine (code_of m.program t) s s.mode (ending.Trap f (place + 1)) (fine_after p fuel logs m h after t s at) begun in
    names.0 place x refl exit

pub none_held_at_end : (p : SyncText) (fuel : ℕ) (logs : List (List Logged)) (m : PlainMachine) (t o : ℕ) (s : ThreadState)
    → IsSyncText p → machine_after (compiled decimal p) fuel logs ≡ Some m
    → slice_get m.threads t ≡ Some s → ending_begun s.mode ≡ Some ending.Done → holds_of s o ≡ 0
none_held_at_end p fuel logs m t o s h after at begun =
    let free = begun_fine (code_of m.program t) s s.mode ending.Done (fine_after p fuel logs m h after t s at) begun in
    free.1 o

-- no trap that the machine takes names an exit
trap_fine : (m next : PlainMachine) (t place x : ℕ) (f : Fault) → AreFine m
    → take m t (entry.Trap f (place + 1)) ≡ Some next → instruction_at (code_of m.program t) place ≡ instr.Exit x → ⊥
trap_fine m next t place x f fine h =
    let k = trapped m next t f (place + 1) h in
    let unwinds = subst (IsFineIn (code_of m.program t) k.s) k.mode (fine t k.s k.at) in
    unwinds.0 place x refl

module _ (t place x : ℕ) (f : Fault) (l : Logged) (is : l.entry ≡ entry.Trap f (place + 1)) where
  -- none of these entries of the thread is the trap
  abbrev IsNever : List (ℕ × Logged) → Type 0
  IsNever xs = (k : ℕ) → slice_get (of_thread t xs) k ≡ Some l → ⊥

  -- the first entry is not, if it is taken
  first_fine : (m next : PlainMachine) (y : ℕ × Logged) (xs : List (ℕ × Logged)) → AreFine m
      → instruction_at (code_of m.program t) place ≡ instr.Exit x → take m y.0 y.1.entry ≡ Some next → IsNever xs → IsNever (y ∷ xs)
  first_fine m next y xs fine exit takes later = go (y.0 == t) refl
    where
      here : y.0 ≡ t → y.1 ≡ l → ⊥
      here own e =
          trap_fine m next t place x f fine (subst (λ (u : ℕ). take m u (entry.Trap f (place + 1)) ≡ Some next) own
          (subst (λ (a : Entry). take m y.0 a ≡ Some next) (ap (λ (z : Logged). z.entry) e ∙ is) takes)) exit

      go : (b : Bool) → (y.0 == t) ≡ b → (k : ℕ) → slice_get (if b then y.1 ∷ of_thread t xs else of_thread t xs) k ≡ Some l → ⊥
      go true e zero a = here (eqb-true y.0 t e) (same_Some y.1 l a)
      go true e (suc k) a = later k a
      go false e k a = later k a

  -- and none is, if all are
  log_fine : (xs : List (ℕ × Logged)) (m last : PlainMachine) → IsReached m → AreFine m
      → instruction_at (code_of m.program t) place ≡ instr.Exit x → after_all m xs ≡ Some last → IsNever xs
  log_fine [] m last reached fine exit h = λ k at. none-some l at
  log_fine (y ∷ xs) m last reached fine exit h =
      let a = first_some (λ next. after_all next xs) (take m y.0 y.1.entry) last h in
      let same : m.program ≡ a.0.program = ap (λ (n : PlainMachine). n.program) (taken m y.0 y.1.entry a.0 a.1).is in
      first_fine m a.0 y xs fine exit a.1 (log_fine xs a.0 last (progress m a.0 y.0 y.1.entry reached a.1).reached
      (take_fine m a.0 y.0 y.1.entry reached fine a.1) (ap (λ q. instruction_at (code_of q t) place) (sym same) ∙ exit) a.2)

pub no_exit_logged : (p : SyncText) (fuel : ℕ) (logs : List (List Logged)) (t k place x : ℕ) (l : Logged) (f : Fault)
    → IsSyncText p → IsLegal (compiled decimal p) fuel logs → slice_get (log_of logs t) k ≡ Some l
    → l.entry ≡ entry.Trap f (place + 1) → instruction_at (code_of (compiled decimal p) t) place ≡ instr.Exit x → ⊥
no_exit_logged p fuel logs t k place x l f h legal at is exit =
    let reached = first_is_reached (compiled decimal p) fuel (compiled_is_program p h) in
    let after = is_there _ legal.taken in
    let own : of_thread t (order logs) ≡ log_of logs t = thread_kept logs t legal.rises in
    log_fine t place x f l is (order logs) (new_machine (compiled decimal p) fuel) after.0 reached
    (starts_fine decimal p fuel p.threads (guarded p h)) exit after.1 k (ap (λ (log : List Logged). slice_get log k) own ∙ at)
