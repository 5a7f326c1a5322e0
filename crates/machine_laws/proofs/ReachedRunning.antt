-- What a run of local instructions keeps.
use Rattle.std.proofs.Common.{◌≡◌, ℕ, zero, suc, ◌+◌, ◌-◌, ◌<◌, ◌≤◌, ℤ, Bool, true, false, List, [], ◌∷◌, map}
use Rattle.std.proofs.Common.{length, replicate, slice_get, refl, ap, subst, ◌||◌, ◌∙◌, arith}
use Rattle.std.specs.List.{AllByRecursion, list_any}
use Rattle.std.proofs.lemmas.List.{length-replicate}
use Rattle.std.proofs.lemmas.List.Folds.{sum_by-replicate}
use Rattle.plain_monitor.specs.declared.entry.Value.{Value}
use Rattle.plain_monitor.specs.declared.entry.Value.TheVariants.{Nil, Int, Ref}
use Rattle.plain_monitor.specs.Numbers.{IsInRange}
use Rattle.object_program.specs.declared.program.Code.{Code}
use Rattle.object_program.specs.declared.program.Code.TheVariants as code
use Rattle.object_program.specs.declared.program.LabelDef.{LabelDef}
use Rattle.object_program.specs.declared.program.ObjectDef.{ObjectDef}
use Rattle.object_program.specs.declared.program.ThreadDef.{ThreadDef}
use Rattle.object_program.specs.Program.{ProgramText, total_of, declared_total, is_new, has_new, objects_total}
use Rattle.object_program.specs.Valid.{IsProgram, IsThread, IsInstruction, AreObjects}
use Rattle.plain_machine.specs.declared.monitor_call.MonitorCall.{MonitorCall}
use Rattle.plain_machine.specs.declared.monitor_call.MonitorCall.TheVariants as call
use Rattle.plain_machine.specs.Thread.{ThreadState, Step, Goes, Calls, Stops, step_of, local, with_local, sets, first_of, size_of}
use Rattle.plain_machine.specs.Running.{instruction_at, after_step, run_on, first_state}
use Rattle.plain_machine.specs.Machine.{code_of}
use Rattle.machine_laws.specs.ReachedMonitor.{waiting_on}
use Rattle.plain_machine.specs.Values.{IsValueOf, IsObject}
use Rattle.plain_machine.proofs.Effects.{Effect, Puts, Passes, Heads, Asks, IsLocal, IsOwned, IsPutBy, IsFrom, IsAsked, IsEffectOf, apply, by_effect}
use Rattle.machine_laws.specs.ReachedThread.{IsHeld, IsCallOf, IsStateOf, IsThreadOf}
use Rattle.machine_laws.specs.Work.{mode_work}
use Rattle.plain_monitor.proofs.Lists.{all_or, all_set, all_replicate, all_map, all_weaker}

-- what a run needs of an instruction
abbrev pub IsRunnable : ProgramText → Code → Type 0
IsRunnable p (code.Set x v) = IsInRange v
IsRunnable p (code.Ref x k) = k < length p.objects
IsRunnable p (code.New x c) = (c < length p.classes) × (has_new p.threads ≡ true)
IsRunnable p c = Unit {0}

-- a `new` is one of its thread's, and so of the program's
abbrev IsNewOf : ProgramText → Code → Type 0
IsNewOf p c = is_new c ≡ true → has_new p.threads ≡ true

either : (a b : Bool) → b ≡ true → (a || b) ≡ true
either true b h = refl
either false b h = h

news_here : (cs : List Code) → AllByRecursion (λ c. is_new c ≡ true → list_any is_new cs ≡ true) cs
news_here [] = tt
news_here (c ∷ cs) = (
  λ h. ap (λ b. b || list_any is_new cs) h,
  all_weaker (λ d. is_new d ≡ true → list_any is_new cs ≡ true) (λ d. is_new d ≡ true → list_any is_new (c ∷ cs) ≡ true)
      (λ d f h. either (is_new c) (list_any is_new cs) (f h)) cs (news_here cs),
)

threads_have : (ts : List ThreadDef) → AllByRecursion (λ t. AllByRecursion (λ c. is_new c ≡ true → has_new ts ≡ true) t.code) ts
threads_have [] = tt
threads_have (t ∷ ts) = (
  all_weaker (λ c. is_new c ≡ true → list_any is_new t.code ≡ true) (λ c. is_new c ≡ true → has_new (t ∷ ts) ≡ true)
      (λ c f h. ap (λ b. b || has_new ts) (f h)) t.code (news_here t.code),
  all_weaker (λ u. AllByRecursion (λ c. is_new c ≡ true → has_new ts ≡ true) u.code)
      (λ u. AllByRecursion (λ c. is_new c ≡ true → has_new (t ∷ ts) ≡ true) u.code)
      (λ u all. all_weaker (λ c. is_new c ≡ true → has_new ts ≡ true) (λ c. is_new c ≡ true → has_new (t ∷ ts) ≡ true)
      (λ c f h. either (list_any is_new t.code) (has_new ts) (f h)) u.code all) ts (threads_have ts),
)

runnable : (p : ProgramText) (locals : ℕ) (labels : List LabelDef) (c : Code)
    → IsInstruction (length p.classes) locals (length p.objects) labels c → IsNewOf p c → IsRunnable p c
runnable p locals labels (code.Set x v) h new = h.1
runnable p locals labels (code.Ref x k) h new = h.1
runnable p locals labels (code.New x c) h new = (h.1, new refl)
runnable p locals labels c h new = tt

-- each thread's instructions are runnable
abbrev pub RunsAll : ProgramText → ThreadDef → Type 0
RunsAll p d = AllByRecursion (IsRunnable p) d.code

-- what follows of all from two facts of all
all_both : {X : Type 0} (P Q R : X → Type 0) → ((x : X) → P x → Q x → R x) → (xs : List X) → AllByRecursion P xs → AllByRecursion Q xs → AllByRecursion R xs
all_both P Q R f [] a b = tt
all_both P Q R f (x ∷ xs) a b = (f x a.0 b.0, all_both P Q R f xs a.1 b.1)

thread_runs : (p : ProgramText) (d : ThreadDef) → IsThread (length p.classes) (length p.objects) d → AllByRecursion (IsNewOf p) d.code → RunsAll p d
thread_runs p d h new =
    all_both (IsInstruction (length p.classes) (length d.locals) (length p.objects) d.labels)
    (IsNewOf p) (IsRunnable p) (runnable p (length d.locals) d.labels) d.code h.code new

pub program_runs : (p : ProgramText) → IsProgram p → AllByRecursion (RunsAll p) p.threads
program_runs p h =
    all_both (IsThread (length p.classes) (length p.objects)) (λ t. AllByRecursion (IsNewOf p) t.code)
    (RunsAll p) (thread_runs p) p.threads h.threads (threads_have p.threads)

pub code_runs : (p : ProgramText) (t : ℕ) → IsProgram p → AllByRecursion (IsRunnable p) (code_of p t)
code_runs p t h = all_or (AllByRecursion (IsRunnable p)) (map (λ d. d.code) p.threads) t [] tt
    (all_map (AllByRecursion (IsRunnable p)) (λ d. d.code) p.threads (program_runs p h))

-- an element of a declaration is one of the program's objects
element_below_from : (classes k : ℕ) (ds : List ObjectDef) (n i : ℕ) → AreObjects classes k ds
    → i < size_of (slice_get ds n) → first_of (slice_get ds n) + i < k + total_of ds
element_below_from classes k [] n i h l = absurd (omega arith)
element_below_from classes k (d ∷ ds) zero i h l = omega (arith, h.0.1, l)
element_below_from classes k (d ∷ ds) (suc n) i h l = omega (arith, element_below_from classes (k + d.size) ds n i h.1 l)

element_declared : (p : ProgramText) (n i : ℕ) → IsProgram p → i < size_of (slice_get p.objects n) → first_of (slice_get p.objects n) + i < declared_total p
element_declared p n i h l = omega (arith, element_below_from (length p.classes) 0 p.objects n i h.objects l)

-- a declaration has an element
some_size : (classes k : ℕ) (ds : List ObjectDef) (n : ℕ) → AreObjects classes k ds → n < length ds → 0 < size_of (slice_get ds n)
some_size classes k [] n h l = absurd (omega arith)
some_size classes k (d ∷ ds) zero h l = h.0.2
some_size classes k (d ∷ ds) (suc n) h l = some_size classes (k + d.size) ds n h.1 (omega arith)

first_declared : (p : ProgramText) (n : ℕ) → IsProgram p → n < length p.objects → first_of (slice_get p.objects n) < declared_total p
first_declared p n h l = omega (arith, element_declared p n 0 h (some_size (length p.classes) 0 p.objects n h.objects l))

-- what holds of numbers in their range and of references to declared objects holds of each value that an instruction puts
pub put_value : (P : Value → Type 0) (p : ProgramText) (c : Code) (v : Value) → IsProgram p → IsRunnable p c → IsPutBy p c v
    → ((z : ℤ) → IsInRange z → P (Int z)) → ((o : ℕ) → o < declared_total p → P (Ref o)) → P v
put_value P p (code.Set x z) v h r is number object = subst P is (number z r)
put_value P p (code.Ref x n) v h r is number object = subst P is (object _ (first_declared p n h r))
put_value P p (code.Elem x n i) v h r is number object = subst P is.2 (object _ (element_declared p n is.0 h is.1))
put_value P p c v h r is number object = subst P is.2 (number is.0 is.1)

-- the thread after a step that goes on
pub record IsKept (p : ProgramText) (s next : ThreadState) : Type 0 where
  pub state : IsStateOf p next
  pub holds : next.holds ≡ s.holds

abbrev pub IsStepOf : ProgramText → ThreadState → Step → Type 0
IsStepOf p s (Goes next) = IsKept p s next
IsStepOf p s (Calls c) = IsCallOf p s.holds s.dumps s.made c
IsStepOf p s (Stops e) = Unit {0}

-- the same thread at another place
at_place : (p : ProgramText) (s : ThreadState) (k : ℕ) → IsStateOf p s → IsKept p s (record s { place = k })
at_place p s k st = record { state = record { holds = st.holds; few = st.few; dumps = st.dumps; locals = st.locals }; holds = refl }

pub set_state : (p : ProgramText) (s : ThreadState) (x : ℕ) (v : Value) → IsStateOf p s → IsValueOf (objects_total p) v → IsStateOf p (with_local s x v)
set_state p s x v st is = record { holds = st.holds; few = st.few; dumps = st.dumps; locals = all_set (IsValueOf (objects_total p)) s.locals x v is st.locals }

sets_step : (p : ProgramText) (s : ThreadState) (x : ℕ) (v : Value) → IsStateOf p s → IsValueOf (objects_total p) v → IsStepOf p s (sets s x v)
sets_step p s x v st is = let next = set_state p s x v st is in
    record { state = record { holds = next.holds; few = next.few; dumps = next.dumps; locals = next.locals }; holds = refl }

local_value : (p : ProgramText) (s : ThreadState) (x : ℕ) → IsStateOf p s → IsValueOf (objects_total p) (local s x)
local_value p s x st = all_or (IsValueOf (objects_total p)) s.locals x Nil (tt, tt) st.locals

module _ (p : ProgramText) (s : ThreadState) (c : Code) (st : IsStateOf p s) where
  local_is : (v : Value) → IsLocal s v → IsValueOf (objects_total p) v
  local_is v at = subst (IsValueOf (objects_total p)) at.1 (local_value p s at.0 st)

  object_is : (o : ℕ) → IsLocal s (Ref o) → IsObject p o
  object_is o at = (local_is (Ref o) at).0

  held_is : (o : ℕ) → IsOwned s o → IsHeld p s.holds o
  held_is o own = (object_is o own.0, own.1)

  call_is : (k : MonitorCall) → IsRunnable p c → IsFrom k c → IsAsked p s k → IsCallOf p s.holds s.dumps s.made k
  call_is (call.Enter o) r from is = (object_is o is.0, is.1)
  call_is (call.Exit o) r from is = held_is o is
  call_is (call.Wait o) r from is = held_is o is
  call_is (call.Notify o) r from is = held_is o is
  call_is (call.NotifyAll o) r from is = held_is o is
  call_is (call.Get x o k) r from is = (held_is o is.0, is.1)
  call_is (call.Put o k v) r from is = (held_is o is.0, is.1, local_is v is.2)
  call_is (call.Hash x o) r from is = object_is o is
  call_is (call.New x d) r from is = let new = subst (IsRunnable p) from r in (new.0, is, new.1)
  call_is (call.Print v) r from is = local_is v is
  call_is (call.Dump k) r from is = is

  effect_keeps : IsProgram p → IsRunnable p c → (x : Effect) → IsEffectOf p s c x → IsStepOf p s (apply s x)
  effect_keeps h r (Puts x v) is =
      sets_step p s x v st (put_value (IsValueOf (objects_total p)) p c v h r is.1 (λ z range. (tt, range)) (λ o below. (omega (arith, below), tt)))
  effect_keeps h r Passes is = at_place p s (s.place + 1) st
  effect_keeps h r (Heads l) is = at_place p s (l - 1) st
  effect_keeps h r (Asks k) is = call_is k r is.0 is.1
  effect_keeps h r _ is = tt

-- what an instruction leads to
step_keeps : (p : ProgramText) (s : ThreadState) (c : Code) → IsProgram p → IsStateOf p s → IsRunnable p c → IsStepOf p s (step_of p s c)
step_keeps p s c h st r = by_effect p s (IsStepOf p s) c (effect_keeps p s c st h r)

-- what holds of a thread that ran with this much fuel and these holds; it doesn't wait
pub record IsRunOf (p : ProgramText) (holds : List ℕ) (fuel : ℕ) (s : ThreadState) : Type 0 where
  pub thread : IsThreadOf p s
  pub holds_stay : s.holds ≡ holds
  pub fuel_falls : s.fuel ≤ fuel
  pub one_entry : mode_work s.mode ≡ 1
  pub runs : (o : ℕ) → waiting_on s.mode o ≡ 0

after_keeps : (p : ProgramText) (k : ℕ) (s : ThreadState) (step : Step) (go : ThreadState → ThreadState)
    → IsStateOf p s → IsStepOf p s step → ((next : ThreadState) → IsStateOf p next → IsRunOf p next.holds k (go next))
    → IsRunOf p s.holds (suc k) (after_step s k step go)
after_keeps p k s (Goes next) go st h ih =
    let r = ih next h.state in record {
      thread = r.thread;
      holds_stay = r.holds_stay ∙ h.holds;
      fuel_falls = omega (arith, r.fuel_falls);
      one_entry = r.one_entry;
      runs = r.runs;
    }
after_keeps p k s (Calls c) go st h ih =
    record {
      thread = record { state = record { holds = st.holds; few = st.few; dumps = st.dumps; locals = st.locals }; mode = (omega arith, h) };
      holds_stay = refl;
      fuel_falls = omega arith;
      one_entry = refl;
      runs = λ o. refl;
    }
after_keeps p k s (Stops e) go st h ih =
    record {
      thread = record { state = record { holds = st.holds; few = st.few; dumps = st.dumps; locals = st.locals }; mode = tt };
      holds_stay = refl;
      fuel_falls = omega arith;
      one_entry = refl;
      runs = λ o. refl;
    }

pub run_keeps : (p : ProgramText) (cs : List Code) → IsProgram p → AllByRecursion (IsRunnable p) cs
    → (fuel : ℕ) (s : ThreadState) → IsStateOf p s → IsRunOf p s.holds fuel (run_on p cs fuel s)
unfolding run_on
run_keeps p cs h all zero s st =
    record {
      thread = record { state = record { holds = st.holds; few = st.few; dumps = st.dumps; locals = st.locals }; mode = tt };
      holds_stay = refl;
      fuel_falls = omega arith;
      one_entry = refl;
      runs = λ o. refl;
    }
run_keeps p cs h all (suc k) s st =
    after_keeps p k s (step_of p s (instruction_at cs s.place)) (λ next. run_on p cs k next) st (step_keeps p s
    (instruction_at cs s.place) h st (all_or (IsRunnable p) cs s.place code.End tt all)) (λ next kept. run_keeps p cs h all k next kept)

pub first_run : (p : ProgramText) (d : ThreadDef) (fuel : ℕ) → IsProgram p → RunsAll p d → IsRunOf p (replicate (objects_total p) 0) fuel (first_state p d fuel)
first_run p d fuel h all = run_keeps p d.code h all fuel _ (record {
  holds = length-replicate _ 0;
  few = omega (arith, sum_by-replicate (λ (x : ℕ). x) (objects_total p) 0);
  dumps = omega arith;
  locals = all_replicate (IsValueOf (objects_total p)) (length d.locals) Nil (tt, tt);
})
