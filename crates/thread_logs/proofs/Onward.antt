-- An entry of a thread of the program leaves one with less work.
use Rattle.std.proofs.Common.{◌≡◌, ℕ, ◌+◌, ◌-◌, ◌*◌, ◌<◌, ◌≤◌, ◌^◌, pos, true, List, [], ◌∷◌, length, map, replicate}
use Rattle.std.proofs.Common.{sum, slice_get, slice_set, slice_index, Some, sym, ap, ◌∙◌, subst, arith, length-set}
use Rattle.std.specs.List.{AllByRecursion}
use Rattle.std.proofs.lemmas.Bool.{false≢true}
use Rattle.std.proofs.lemmas.Int.{ints}
use Rattle.std.proofs.lemmas.List.Folds.{sum_by-replicate}
use Rattle.std.proofs.lemmas.List.Sums.{sum_by-set}
use Rattle.plain_monitor.specs.declared.entry.Entry.{Entry}
use Rattle.plain_monitor.specs.declared.entry.Entry.TheVariants.{Get, Hash, New}
use Rattle.plain_monitor.specs.declared.entry.Ending.{Ending}
use Rattle.plain_monitor.specs.declared.entry.Value.TheVariants.{Int, Ref}
use Rattle.plain_monitor.specs.Numbers.{IsInRange}
use Rattle.plain_monitor.proofs.Lists.{all_at}
use Rattle.object_program.specs.declared.program.ThreadDef.{ThreadDef}
use Rattle.object_program.specs.Program.{ProgramText, objects_total}
use Rattle.object_program.specs.Valid.{IsProgram}
use Rattle.plain_machine.specs.declared.monitor_call.MonitorCall.{MonitorCall}
use Rattle.plain_machine.specs.declared.monitor_call.MonitorCall.TheVariants as call
use Rattle.plain_machine.specs.declared.monitor_call.Mode.{Mode}
use Rattle.plain_machine.specs.declared.monitor_call.Mode.TheVariants.{Waiting, Ended}
use Rattle.plain_machine.specs.declared.monitor_call.NextEntry.{NextEntry}
use Rattle.plain_machine.specs.declared.monitor_call.NextEntry.TheVariants.{Calls, Resumes, Leaves, Ends}
use Rattle.plain_machine.specs.Thread.{ThreadState, past, holds_of}
use Rattle.plain_machine.specs.Running.{run_on, first_state}
use Rattle.plain_machine.specs.Asking.{is_call, fits, holds_less, answered, after_call, after_entry, thread_after}
use Rattle.plain_machine.specs.Machine.{code_of, new_machine}
use Rattle.plain_machine.specs.Values.{IsObject}
use Rattle.machine_laws.specs.ReachedThread.{IsHeld, IsCallOf, IsModeOf, IsStateOf, IsThreadOf}
use Rattle.machine_laws.specs.Work.{work_of, mode_work}
use Rattle.machine_laws.proofs.ReachedRunning.{IsRunOf, RunsAll, run_keeps, code_runs, program_runs, first_run, set_state}
use Rattle.machine_laws.proofs.ReachedAsked.{IsPaid, IsAwaited, IsLeft, IsLast, IsAskedOf, asked_of}
use Rattle.thread_logs.specs.Followed.{HasValue}
use Rattle.thread_logs.proofs.Entries.{has_made}

-- a thread moves on: it is one of the program, and has less work
pub record IsOnward (p : ProgramText) (s next : ThreadState) : Type 0 where
  pub thread : IsThreadOf p next
  pub work : work_of next < work_of s

-- what a call's answer makes of the thread: it holds at most one object more
record IsAnswered (p : ProgramText) (s a : ThreadState) : Type 0 where
  state : IsStateOf p a
  few : sum a.holds ≤ sum s.holds + 1

-- the same thread at another place, with other fuel and another mode
kept : (p : ProgramText) (s : ThreadState) (place fuel : ℕ) (mode : Mode) → IsStateOf p s
    → IsStateOf p (record s { place = place; fuel = fuel; mode = mode })
kept p s place fuel mode st = record { holds = st.holds; few = st.few; dumps = st.dumps; locals = st.locals }

-- the same thread with its holds of one object set
holds_set : (p : ProgramText) (s : ThreadState) (o k : ℕ) → IsStateOf p s → sum (slice_set s.holds o k) ≤ 64
    → IsStateOf p (record s { holds = slice_set s.holds o k })
holds_set p s o k st few =
    record { holds = length-set s.holds o k ∙ st.holds; few = few; dumps = st.dumps; locals = st.locals }

sum_more : (holds : List ℕ) (o : ℕ) → o < length holds
    → sum (slice_set holds o (slice_index holds o + 1)) ≡ sum holds + 1
sum_more holds o l = omega (arith, sum_by-set (λ (x : ℕ). x) holds o (slice_index holds o + 1) 0 l)

sum_less : (holds : List ℕ) (o : ℕ) → o < length holds → 1 ≤ slice_index holds o
    → sum (slice_set holds o (slice_index holds o - 1)) + 1 ≡ sum holds
sum_less holds o l h = omega (arith, sum_by-set (λ (x : ℕ). x) holds o (slice_index holds o - 1) 0 l)

less : (p : ProgramText) (s : ThreadState) (o : ℕ) → IsStateOf p s → IsHeld p s.holds o
    → sum (holds_less s o).holds + 1 ≡ sum s.holds
less p s o st held = let there : IsObject p o = held.0 in sum_less s.holds o (omega (arith, st.holds, there)) held.1

hash_value : (value : ℕ) → value < 2 ^ 32 → IsInRange (pos value)
hash_value value low = (omega (arith, ints), omega (arith, ints))

new_answer : (p : ProgramText) (s : ThreadState) (x c : ℕ) (e : Entry) → IsStateOf p s
    → is_call (call.New x c) e ≡ true → HasValue (objects_total p) e → IsAnswered p s (answered s (call.New x c) e)
new_answer p s x c (New object class) st fit v =
    let counted : IsStateOf p (record s { made = s.made + 1 }) = record { holds = st.holds; few = st.few; dumps = st.dumps; locals = st.locals } in
    record { state = set_state p (record s { made = s.made + 1 }) x (Ref object) counted (v, tt); few = omega arith }
new_answer p s x c e st fit v = absurd (false≢true fit)

get_answer : (p : ProgramText) (s : ThreadState) (x o k : ℕ) (e : Entry) → IsStateOf p s
    → is_call (call.Get x o k) e ≡ true → HasValue (objects_total p) e
    → IsAnswered p s (answered s (call.Get x o k) e)
get_answer p s x o k (Get object slot value) st fit v = record { state = set_state p s x value st v; few = omega arith }
get_answer p s x o k e st fit v = absurd (false≢true fit)

hash_answer : (p : ProgramText) (s : ThreadState) (x o : ℕ) (e : Entry) → IsStateOf p s
    → is_call (call.Hash x o) e ≡ true → HasValue (objects_total p) e → IsAnswered p s (answered s (call.Hash x o) e)
hash_answer p s x o (Hash object value drawn) st fit v =
    record { state = set_state p s x (Int (pos value)) st (tt, hash_value value v); few = omega arith }
hash_answer p s x o e st fit v = absurd (false≢true fit)

answer : (p : ProgramText) (s : ThreadState) (c : MonitorCall) (e : Entry) → IsStateOf p s → IsCallOf p s.holds s.dumps s.made c
    → is_call c e ≡ true → HasValue (objects_total p) e → IsAnswered p s (answered s c e)
answer p s (call.Enter o) e st h fit v =
    let there : IsObject p o = h.0 in
    let more = sum_more s.holds o (omega (arith, st.holds, there)) in
    record { state = holds_set p s o (holds_of s o + 1) st (omega (arith, more, h.1)); few = omega (arith, more) }
answer p s (call.Exit o) e st h fit v =
    let fewer = less p s o st h in
    record { state = holds_set p s o (holds_of s o - 1) st (omega (arith, fewer, st.few)); few = omega (arith, fewer) }
answer p s (call.Get x o k) e st h fit v = get_answer p s x o k e st fit v
answer p s (call.Hash x o) e st h fit v = hash_answer p s x o e st fit v
answer p s (call.New x c) e st h fit v = new_answer p s x c e st fit v
answer p s (call.Dump k) e st h fit v =
    record { state = record { holds = st.holds; few = st.few; dumps = h.1; locals = st.locals }; few = omega arith }
answer p s c e st h fit v = record { state = st; few = omega arith }

module _ (p : ProgramText) (t : ℕ) (valid : IsProgram p) where
  run : (fuel : ℕ) (s : ThreadState) → IsStateOf p s → IsRunOf p s.holds fuel (run_on p (code_of p t) fuel s)
  run fuel s st = run_keeps p (code_of p t) valid (code_runs p t valid) fuel s st

  -- after an answered call it runs on
  called : (s a : ThreadState) (c : MonitorCall) → IsPaid p s c → IsAnswered p s a
      → IsOnward p s (run_on p (code_of p t) (s.fuel - 1) (past a))
  called s a c paid h =
      let r = run (s.fuel - 1) (past a) (kept p a (a.place + 1) a.fuel a.mode h.state) in
      let one : mode_work s.mode ≡ 1 = ap mode_work paid.mode in
      record {
        thread = r.thread;
        work = omega (arith, paid.fuel, r.fuel_falls, r.one_entry, one, ap sum r.holds_stay, h.few);
      }

  waited : (s : ThreadState) (o : ℕ) → IsStateOf p s → IsPaid p s (call.Wait o)
      → IsOnward p s (record (past s) { fuel = s.fuel - 1; mode = Waiting o })
  waited s o st paid =
      let one : mode_work s.mode ≡ 1 = ap mode_work paid.mode in
      let now = kept p s (s.place + 1) (s.fuel - 1) (Waiting o) st in
      record { thread = record { state = now; mode = paid.call.0 }; work = omega (arith, paid.fuel, one) }

  call_onward : (s : ThreadState) (c : MonitorCall) (e : Entry) → IsStateOf p s → IsPaid p s c
      → IsAnswered p s (answered s c e) → IsOnward p s (after_call p (code_of p t) s c e)
  call_onward s (call.Wait o) e st paid h = waited s o st paid
  call_onward s c e st paid h = called s (answered s c e) c paid h

  resumed : (s : ThreadState) (o : ℕ) → IsStateOf p s → IsAwaited p s o
      → IsOnward p s (run_on p (code_of p t) s.fuel s)
  resumed s o st awaited =
      let r = run s.fuel s st in
      let two : mode_work s.mode ≡ 2 = ap mode_work awaited.mode in
      record { thread = r.thread; work = omega (arith, r.fuel_falls, r.one_entry, two, ap sum r.holds_stay) }

  left : (s : ThreadState) (o : ℕ) → IsStateOf p s → IsLeft p s o → IsOnward p s (holds_less s o)
  left s o st h =
      let mode : IsModeOf p (holds_less s o) s.mode = subst (IsModeOf p (holds_less s o)) (sym h.mode) tt in
      let fewer = less p s o st h.held in
      let now = holds_set p s o (holds_of s o - 1) st (omega (arith, fewer, st.few)) in
      record { thread = record { state = now; mode = mode }; work = omega (arith, fewer) }

  ended : (s : ThreadState) (g : Ending) → IsStateOf p s → IsLast s g → IsOnward p s (record s { mode = Ended g })
  ended s g st last =
      let one : mode_work s.mode ≡ 1 = ap mode_work last.mode in
      let now = kept p s s.place s.fuel (Ended g) st in
      record { thread = record { state = now; mode = last.none }; work = omega (arith, one) }

  asked_onward : (s : ThreadState) (a : NextEntry) (e : Entry) → IsStateOf p s → IsAskedOf p s a → fits a e ≡ true
      → HasValue (objects_total p) e → IsOnward p s (after_entry p (code_of p t) s a e)
  asked_onward s (Calls c) e st h fit v = call_onward s c e st h (answer p s c e st h.call fit v)
  asked_onward s (Resumes o) e st h fit v = resumed s o st h
  asked_onward s (Leaves o) e st h fit v = left s o st h
  asked_onward s (Ends g) e st h fit v = ended s g st h

  -- an entry that the thread makes
  pub onward : (s next : ThreadState) (e : Entry) → IsThreadOf p s → HasValue (objects_total p) e
      → thread_after p (code_of p t) s e ≡ Some next → IsOnward p s next
  onward s next e h v takes =
      let m = has_made p (code_of p t) s next e takes in
      subst (IsOnward p s) m.is (asked_onward s m.asked e h.state (asked_of p s m.asked h m.asks) m.fit v)

-- a thread before its first entry
pub record IsFirst (p : ProgramText) (fuel : ℕ) (s : ThreadState) : Type 0 where
  pub thread : IsThreadOf p s
  pub work : work_of s ≤ 2 * fuel + 1

abbrev IsFirstRun : ProgramText → ℕ → ThreadState → Type 0
IsFirstRun p fuel s = IsRunOf p (replicate (objects_total p) 0) fuel s

first_runs : (p : ProgramText) (fuel : ℕ) (ts : List ThreadDef) → IsProgram p
    → AllByRecursion (RunsAll p) ts
    → AllByRecursion (IsFirstRun p fuel) (map (λ t. first_state p t fuel) ts)
first_runs p fuel [] h all = tt
first_runs p fuel (d ∷ ts) h all = (first_run p d fuel h all.0, first_runs p fuel ts h all.1)

pub is_first : (p : ProgramText) (fuel t : ℕ) (s : ThreadState) → IsProgram p
    → slice_get (new_machine p fuel).threads t ≡ Some s → IsFirst p fuel s
is_first p fuel t s h at =
    let all = first_runs p fuel p.threads h (program_runs p h) in
    let r = all_at (IsFirstRun p fuel) (new_machine p fuel).threads t s all at in
    let zeros = sum_by-replicate (λ (x : ℕ). x) (objects_total p) 0 in
    let none : sum s.holds ≡ 0 = ap sum r.holds_stay ∙ omega (arith, zeros) in
    record { thread = r.thread; work = omega (arith, none, r.one_entry, r.fuel_falls) }
