-- How a thread of a reached machine moves with each kind of entry.
use Rattle.std.proofs.Common.{◌≡◌, ◌≢◌, ℕ, ◌+◌, ◌-◌, ◌<◌, ◌≤◌, List, length, sum, slice_set, slice_index, refl, sym}
use Rattle.std.proofs.Common.{ap, ◌∙◌, subst, arith, length-set, get_or-set_same, get_or-set_other, ne_eqb, eq-eqb}
use Rattle.std.proofs.lemmas.List.Sums.{sum_by-set}
use Rattle.plain_monitor.specs.Limits.{most_holds}
use Rattle.plain_monitor.specs.declared.entry.Ending.{Ending}
use Rattle.plain_monitor.specs.Objects.{PlainObject}
use Rattle.object_program.specs.Program.{ProgramText}
use Rattle.plain_machine.specs.declared.monitor_call.MonitorCall.{MonitorCall}
use Rattle.plain_machine.specs.declared.monitor_call.MonitorCall.TheVariants as call
use Rattle.plain_machine.specs.declared.monitor_call.Mode.TheVariants.{Waiting, Ended}
use Rattle.plain_machine.specs.Thread.{ThreadState, past, holds_of}
use Rattle.plain_machine.specs.Running.{run_on}
use Rattle.plain_machine.specs.Asking.{holds_more, holds_less}
use Rattle.plain_machine.specs.Machine.{PlainMachine, code_of}
use Rattle.machine_laws.specs.Work.{mode_work}
use Rattle.machine_laws.specs.ReachedMonitor.{waiting_on}
use Rattle.plain_machine.specs.Values.{IsObject}
use Rattle.machine_laws.specs.ReachedThread.{IsStateOf, IsThreadOf, IsModeOf}
use Rattle.machine_laws.specs.Reached.{IsReached}
use Rattle.plain_monitor.proofs.Lists.{all_at}
use Rattle.machine_laws.proofs.ReachedRunning.{IsRunOf, run_keeps, code_runs}
use Rattle.machine_laws.proofs.ReachedMonitor.{stays, one_more, one_less, is_put_in, is_taken_out}
use Rattle.machine_laws.proofs.ReachedFrame.{IsProgress, IsMaker, IsThreadMove, IsSteady, IsChanged, IsObjectStep, moved_to, progress_alone, progress_at}
use Rattle.machine_laws.proofs.ReachedAsked.{IsPaid, IsAwaited, IsLeft, IsLast}

pub thread_of : (m : PlainMachine) (t : ℕ) (s : ThreadState) → IsMaker m t s → IsThreadOf m.program s
thread_of m t s h = all_at (IsThreadOf m.program) m.threads t s h.reached.threads h.at

pub state_of : (m : PlainMachine) (t : ℕ) (s : ThreadState) → IsMaker m t s → IsStateOf m.program s
state_of m t s h = (thread_of m t s h).state

-- the thread that runs on from s with this fuel
abbrev pub runs_on : PlainMachine → ℕ → ℕ → ThreadState → ThreadState
runs_on m t fuel s = run_on m.program (code_of m.program t) fuel s

run_of : (m : PlainMachine) (t fuel : ℕ) (s : ThreadState) → IsReached m → IsStateOf m.program s → IsRunOf m.program s.holds fuel (runs_on m t fuel s)
run_of m t fuel s h st = run_keeps m.program (code_of m.program t) h.program (code_runs m.program t h.program) fuel s st

-- the holds with another number for object o
holds_set : (p : ProgramText) (s : ThreadState) (o k : ℕ) → IsStateOf p s
    → sum (slice_set s.holds o k) ≤ most_holds → IsStateOf p (record s { holds = slice_set s.holds o k })
holds_set p s o k st few = record { holds = length-set s.holds o k ∙ st.holds; few = few; dumps = st.dumps; locals = st.locals }

held_within : (p : ProgramText) (s : ThreadState) (o : ℕ) → IsStateOf p s → IsObject p o → o < length s.holds
held_within p s o st l = omega (arith, st.holds, l)

sum_more : (holds : List ℕ) (o : ℕ) → o < length holds → sum (slice_set holds o (slice_index holds o + 1)) ≡ sum holds + 1
sum_more holds o l = omega (arith, sum_by-set (λ (x : ℕ). x) holds o (slice_index holds o + 1) 0 l)

sum_less : (holds : List ℕ) (o : ℕ) → o < length holds → 1 ≤ slice_index holds o → sum (slice_set holds o (slice_index holds o - 1)) + 1 ≡ sum holds
sum_less holds o l h = omega (arith, sum_by-set (λ (x : ℕ). x) holds o (slice_index holds o - 1) 0 l)

-- a thread that made its call ran on with the holds that the call left
record IsCallRun (m : PlainMachine) (s next : ThreadState) (holds : List ℕ) : Type 0 where
  move : IsThreadMove m s next
  holds_are : next.holds ≡ holds
  waits : (o : ℕ) → waiting_on next.mode o ≡ waiting_on s.mode o

call_run : (m : PlainMachine) (t : ℕ) (s a : ThreadState) (c : MonitorCall) → IsMaker m t s
    → IsPaid m.program s c → IsStateOf m.program a → sum a.holds ≤ sum s.holds + 1
    → IsCallRun m s (runs_on m t (s.fuel - 1) (past a)) a.holds
call_run m t s a c h paid st few =
    let run = run_of m t (s.fuel - 1) (past a) h.reached (record { holds = st.holds; few = st.few; dumps = st.dumps; locals = st.locals }) in
    let one : mode_work s.mode ≡ 1 = ap mode_work paid.mode in
    record {
      move = record { thread = run.thread; work = omega (arith, paid.fuel, run.fuel_falls, run.one_entry, one, ap sum run.holds_stay, few) };
      holds_are = run.holds_stay;
      waits = λ o. run.runs o ∙ sym (ap (λ k. waiting_on k o) paid.mode);
    }

-- a thread whose holds stay
steady : (m : PlainMachine) (s next : ThreadState) → IsCallRun m s next s.holds → (o : ℕ) → IsSteady s next o
steady m s next r o = record { holds = ap (λ (xs : List ℕ). slice_index xs o) r.holds_are; waits = r.waits o }

unchanged : (s next : ThreadState) (o : ℕ) → IsSteady s next o → IsChanged stays s next o
unchanged s next o k = record { holds = omega (arith, k.holds); waits = omega (arith, k.waits) }

-- a call that leaves the holds and the objects
pub call_alone : (m : PlainMachine) (t : ℕ) (s a : ThreadState) (c : MonitorCall)
    → IsMaker m t s → IsPaid m.program s c → IsStateOf m.program a → a.holds ≡ s.holds
    → IsProgress m (moved_to m t (runs_on m t (s.fuel - 1) (past a)) m.objects)
call_alone m t s a c h paid st same =
    let run = call_run m t s a c h paid st (omega (arith, ap sum same)) in
    let kept : IsCallRun m s (runs_on m t (s.fuel - 1) (past a)) s.holds = record { move = run.move; holds_are = run.holds_are ∙ same; waits = run.waits } in
    progress_alone m t s _ h run.move (steady m s _ kept)

-- a call on an object that leaves the holds
pub call_at : (m : PlainMachine) (t o : ℕ) (s a : ThreadState) (c : MonitorCall) (x y : PlainObject)
    → IsMaker m t s → IsPaid m.program s c → IsStateOf m.program a → a.holds ≡ s.holds
    → IsObjectStep m t o stays x y → IsProgress m (moved_to m t (runs_on m t (s.fuel - 1) (past a)) (slice_set m.objects o y))
call_at m t o s a c x y h paid st same step =
    let run = call_run m t s a c h paid st (omega (arith, ap sum same)) in
    let kept : IsCallRun m s (runs_on m t (s.fuel - 1) (past a)) s.holds = record { move = run.move; holds_are = run.holds_are ∙ same; waits = run.waits } in
    progress_at m t o stays s _ x y h run.move step (unchanged s _ o (steady m s _ kept o)) (λ k other. steady m s _ kept k)

-- the other objects' holds, where those of one are set
steady_set : (s next : ThreadState) (o k : ℕ) → next.holds ≡ slice_set s.holds o k
    → ((i : ℕ) → waiting_on next.mode i ≡ waiting_on s.mode i) → (i : ℕ) → i ≢ o → IsSteady s next i
steady_set s next o k holds waits i other =
    record { holds = ap (λ (xs : List ℕ). slice_index xs i) holds ∙ get_or-set_other s.holds o i k 0 other; waits = waits i }

changed_set : (s next : ThreadState) (o k : ℕ) → next.holds ≡ slice_set s.holds o k → o < length s.holds → holds_of next o ≡ k
changed_set s next o k holds l = ap (λ (xs : List ℕ). slice_index xs o) holds ∙ get_or-set_same s.holds o k 0 l

pub enter_kind : (m : PlainMachine) (t o : ℕ) (s : ThreadState) (x y : PlainObject)
    → IsMaker m t s → IsPaid m.program s (call.Enter o) → IsObjectStep m t o one_more x y
    → IsProgress m (moved_to m t (runs_on m t (s.fuel - 1) (past (holds_more s o))) (slice_set m.objects o y))
enter_kind m t o s x y h paid step =
    let st = state_of m t s h in
    let next : ThreadState = runs_on m t (s.fuel - 1) (past (holds_more s o)) in
    let within : o < length s.holds = held_within m.program s o st paid.call.0 in
    let more = sum_more s.holds o within in
    let after : IsStateOf m.program (holds_more s o) = holds_set m.program s o (holds_of s o + 1) st (omega (arith, more, paid.call.1)) in
    let run = call_run m t s (holds_more s o) (call.Enter o) h paid after (omega (arith, more)) in
    let held = changed_set s next o (holds_of s o + 1) run.holds_are within in
    progress_at m t o one_more s next x y h run.move step
    (record { holds = omega (arith, held); waits = omega (arith, run.waits o) })
    (steady_set s next o (holds_of s o + 1) run.holds_are run.waits)

pub exit_kind : (m : PlainMachine) (t o : ℕ) (s : ThreadState) (x y : PlainObject)
    → IsMaker m t s → IsPaid m.program s (call.Exit o) → IsObjectStep m t o one_less x y
    → IsProgress m (moved_to m t (runs_on m t (s.fuel - 1) (past (holds_less s o))) (slice_set m.objects o y))
exit_kind m t o s x y h paid step =
    let st = state_of m t s h in
    let next : ThreadState = runs_on m t (s.fuel - 1) (past (holds_less s o)) in
    let within : o < length s.holds = held_within m.program s o st paid.call.0 in
    let less = sum_less s.holds o within paid.call.1 in
    let after : IsStateOf m.program (holds_less s o) = holds_set m.program s o (holds_of s o - 1) st (omega (arith, less, st.few)) in
    let run = call_run m t s (holds_less s o) (call.Exit o) h paid after (omega (arith, less)) in
    let held = changed_set s next o (holds_of s o - 1) run.holds_are within in
    progress_at m t o one_less s next x y h run.move step
    (record { holds = omega (arith, held, paid.call.1); waits = omega (arith, run.waits o) })
    (steady_set s next o (holds_of s o - 1) run.holds_are run.waits)

-- a thread that unwinds leaves a hold
pub leave_kind : (m : PlainMachine) (t o : ℕ) (s : ThreadState) (x y : PlainObject) → IsMaker m t s → IsLeft m.program s o → IsObjectStep m t o one_less x y
    → IsProgress m (moved_to m t (holds_less s o) (slice_set m.objects o y))
leave_kind m t o s x y h left step =
    let st = state_of m t s h in
    let within : o < length s.holds = held_within m.program s o st left.held.0 in
    let mode : IsModeOf m.program (holds_less s o) s.mode = subst (IsModeOf m.program (holds_less s o)) (sym left.mode) tt in
    let less = sum_less s.holds o within left.held.1 in
    let move : IsThreadMove m s (holds_less s o) = record {
      thread = record { state = holds_set m.program s o (holds_of s o - 1) st (omega (arith, less, st.few)); mode = mode };
      work = omega (arith, less);
    } in
    let held = changed_set s (holds_less s o) o (holds_of s o - 1) refl within in
    progress_at m t o one_less s (holds_less s o) x y h move step
    (record { holds = omega (arith, held, left.held.1); waits = refl })
    (steady_set s (holds_less s o) o (holds_of s o - 1) refl (λ i. refl))

-- a thread that waits
abbrev pub in_wait : ThreadState → ℕ → ThreadState
in_wait s o = record (past s) { fuel = s.fuel - 1; mode = Waiting o }

pub wait_kind : (m : PlainMachine) (t o : ℕ) (s : ThreadState) (x y : PlainObject)
    → IsMaker m t s → IsPaid m.program s (call.Wait o) → IsObjectStep m t o is_put_in x y
    → IsProgress m (moved_to m t (in_wait s o) (slice_set m.objects o y))
wait_kind m t o s x y h paid step =
    let st = state_of m t s h in
    let one : mode_work s.mode ≡ 1 = ap mode_work paid.mode in
    let runs : (k : ℕ) → waiting_on s.mode k ≡ 0 = λ k. ap (λ z. waiting_on z k) paid.mode in
    let here : waiting_on (Waiting o) o ≡ 1 = rw (eq-eqb o o refl) refl in
    let move : IsThreadMove m s (in_wait s o) = record {
      thread = record { state = record { holds = st.holds; few = st.few; dumps = st.dumps; locals = st.locals }; mode = paid.call.0 };
      work = omega (arith, paid.fuel, one);
    } in
    progress_at m t o is_put_in s (in_wait s o) x y h move step
    (record { holds = omega arith; waits = omega (arith, here, runs o) })
    (λ k other. record { holds = refl; waits = rw (ne_eqb o k (λ q. other (sym q))) (sym (runs k)) })

pub resume_kind : (m : PlainMachine) (t o : ℕ) (s : ThreadState) (x y : PlainObject)
    → IsMaker m t s → IsAwaited m.program s o → IsObjectStep m t o is_taken_out x y
    → IsProgress m (moved_to m t (runs_on m t s.fuel s) (slice_set m.objects o y))
resume_kind m t o s x y h awaited step =
    let run = run_of m t s.fuel s h.reached (state_of m t s h) in
    let two : mode_work s.mode ≡ 2 = ap mode_work awaited.mode in
    let here : waiting_on s.mode o ≡ 1 = ap (λ z. waiting_on z o) awaited.mode ∙ rw (eq-eqb o o refl) refl in
    let elsewhere : (k : ℕ) → k ≢ o → waiting_on s.mode k ≡ 0 = λ k other. ap (λ z. waiting_on z k) awaited.mode ∙ rw (ne_eqb o k (λ q. other (sym q))) refl in
    let move : IsThreadMove m s (runs_on m t s.fuel s) =
    record { thread = run.thread; work = omega (arith, run.fuel_falls, run.one_entry, two, ap sum run.holds_stay) } in
    let held : (k : ℕ) → holds_of (runs_on m t s.fuel s) k ≡ holds_of s k = λ k. ap (λ (xs : List ℕ). slice_index xs k) run.holds_stay in
    progress_at m t o is_taken_out s (runs_on m t s.fuel s) x y h move step
    (record { holds = omega (arith, held o); waits = omega (arith, here, run.runs o) })
    (λ k other. record { holds = held k; waits = run.runs k ∙ sym (elsewhere k other) })

pub end_kind : (m : PlainMachine) (t : ℕ) (s : ThreadState) (g : Ending) → IsMaker m t s
    → IsLast s g → IsProgress m (moved_to m t (record s { mode = Ended g }) m.objects)
end_kind m t s g h last =
    let st = state_of m t s h in
    let one : mode_work s.mode ≡ 1 = ap mode_work last.mode in
    progress_alone m t s (record s { mode = Ended g }) h
    (record {
      thread = record { state = record { holds = st.holds; few = st.few; dumps = st.dumps; locals = st.locals }; mode = last.none };
      work = omega (arith, one);
    })
    (λ o. record { holds = refl; waits = sym (ap (λ z. waiting_on z o) last.mode) })
