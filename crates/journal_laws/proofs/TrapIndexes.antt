-- A thread traps only at an instruction that it has, so that no trap's number is above 4096.
use Rattle.std.proofs.Common.{◌≡◌, inl, inr, ℕ, zero, suc, ◌<◌, ◌≤◌}
use Rattle.std.proofs.Common.{List, [], length, map, Some, sym, subst, arith}
use Rattle.std.specs.List.{AllByRecursion}
use Rattle.std.proofs.lemmas.Bool.{cases_lt}
use Rattle.std.proofs.lemmas.List.{get_or_past}
use Rattle.plain_monitor.specs.declared.entry.Ending.{Ending}
use Rattle.plain_monitor.specs.declared.entry.Ending.TheVariants as ending
use Rattle.plain_monitor.specs.declared.entry.Entry.{Entry}
use Rattle.plain_monitor.proofs.Lists.{all_at, all_map, all_or, all_set, all_weaker}
use Rattle.object_program.specs.Limits.{most_code}
use Rattle.object_program.specs.declared.program.Code.{Code}
use Rattle.object_program.specs.declared.program.Code.TheVariants as code
use Rattle.object_program.specs.declared.program.ThreadDef.{ThreadDef}
use Rattle.object_program.specs.Program.{ProgramText}
use Rattle.object_program.specs.Valid.{IsProgram, IsThread}
use Rattle.plain_machine.specs.declared.monitor_call.MonitorCall.{MonitorCall}
use Rattle.plain_machine.specs.declared.monitor_call.MonitorCall.TheVariants as call
use Rattle.plain_machine.specs.declared.monitor_call.Mode.{Mode}
use Rattle.plain_machine.specs.declared.monitor_call.Mode.TheVariants.{Unwinding}
use Rattle.plain_machine.specs.declared.monitor_call.NextEntry.{NextEntry}
use Rattle.plain_machine.specs.declared.monitor_call.NextEntry.TheVariants as asked
use Rattle.plain_machine.specs.Asking.{after_call, after_entry}
use Rattle.plain_machine.specs.Machine.{PlainMachine, code_of, new_machine, take}
use Rattle.plain_machine.specs.Running.{instruction_at, after_step, run_on, first_state}
use Rattle.plain_machine.specs.Thread.{ThreadState, Step, Goes, Calls, Stops, step_of}
use Rattle.plain_machine.proofs.Effects.{Effect, Faults, apply, by_effect}
use Rattle.machine_laws.proofs.ReachedAsked.{taken}

-- an ending that is no trap at an instruction after the n-th
abbrev pub EndsWithin : ℕ → Ending → Type 0
EndsWithin n (ending.Trap fault index) = index ≤ n
EndsWithin n e = Unit {0}

abbrev pub UnwindsWithin : ℕ → Mode → Type 0
UnwindsWithin n (Unwinding e) = EndsWithin n e
UnwindsWithin n mode = Unit {0}

abbrev StopsWithin : ℕ → Step → Type 0
StopsWithin n (Goes next) = Unit {0}
StopsWithin n (Calls c) = Unit {0}
StopsWithin n (Stops e) = EndsWithin n e

-- STEPS
applying : (s : ThreadState) (n : ℕ) → s.place < n → (x : Effect) → StopsWithin n (apply s x)
applying s n h (Faults f) = omega (arith, h)
applying s n h _ = tt

stepping : (s : ThreadState) (n : ℕ) → s.place < n → (p : ProgramText) (c : Code) → StopsWithin n (step_of p s c)
stepping s n h p c = by_effect p s (StopsWithin n) c (λ x is. applying s n h x)

-- after the last instruction stands an end
stepping_there : (p : ProgramText) (cs : List Code) (s : ThreadState) → StopsWithin (length cs) (step_of p s (instruction_at cs s.place))
stepping_there p cs s = elim (cases_lt s.place (length cs)) [
  | inl within ↦ stepping s (length cs) within p (instruction_at cs s.place)
  | inr past ↦ subst (λ c. StopsWithin (length cs) (step_of p s c)) (sym (get_or_past cs s.place code.End past)) tt
]

after : (n k : ℕ) (s : ThreadState) (step : Step) (go : ThreadState → ThreadState)
    → StopsWithin n step → ((next : ThreadState) → UnwindsWithin n (go next).mode)
    → UnwindsWithin n (after_step s k step go).mode
after n k s (Goes next) go h on = on next
after n k s (Calls c) go h on = tt
after n k s (Stops e) go h on = h

running : (p : ProgramText) (cs : List Code) (fuel : ℕ) (s : ThreadState) → UnwindsWithin (length cs) (run_on p cs fuel s).mode
unfolding run_on
running p cs zero s = tt
running p cs (suc k) s =
    after (length cs) k s (step_of p s (instruction_at cs s.place)) (λ next. run_on p cs k next) (stepping_there p cs s) (running p cs k)

ends_within : (n m : ℕ) (e : Ending) → n ≤ m → EndsWithin n e → EndsWithin m e
ends_within n m (ending.Trap f i) le h = omega (arith, le, h)
ends_within n m e le h = tt

unwinds_within : (n m : ℕ) (mode : Mode) → n ≤ m → UnwindsWithin n mode → UnwindsWithin m mode
unwinds_within n m (Unwinding e) le h = ends_within n m e le h
unwinds_within n m mode le h = tt

-- MACHINES
-- no thread of the machine unwinds by a trap at an instruction after the 4096th
abbrev pub TrapsAreNear : PlainMachine → Type 0
TrapsAreNear m = AllByRecursion (λ (s : ThreadState). UnwindsWithin most_code s.mode) m.threads

code_near : (p : ProgramText) (t : ℕ) → IsProgram p → length (code_of p t) ≤ most_code
code_near p t is =
    all_or (λ (cs : List Code). length cs ≤ most_code) (map (λ (d : ThreadDef). d.code) p.threads) t [] (omega arith)
    (all_map (λ (cs : List Code). length cs ≤ most_code) (λ (d : ThreadDef). d.code) p.threads
    (all_weaker (IsThread (length p.classes) (length p.objects)) (λ (d : ThreadDef). length d.code ≤ most_code) (λ d h. h.code_few) p.threads is.threads))

first_near : (p : ProgramText) (fuel : ℕ) (d : ThreadDef) → length d.code ≤ most_code → UnwindsWithin most_code (first_state p d fuel).mode
first_near p fuel d few = unwinds_within (length d.code) most_code (first_state p d fuel).mode few (running p d.code fuel _)

pub new_near : (p : ProgramText) (fuel : ℕ) → IsProgram p → TrapsAreNear (new_machine p fuel)
new_near p fuel is =
    all_map (λ (s : ThreadState). UnwindsWithin most_code s.mode) (λ d. first_state p d fuel) p.threads
    (all_weaker (IsThread (length p.classes) (length p.objects)) (λ d. UnwindsWithin most_code (first_state p d fuel).mode)
    (λ d h. first_near p fuel d h.code_few) p.threads is.threads)

module _ (p : ProgramText) (cs : List Code) (few : length cs ≤ most_code) where
  run_near : (fuel : ℕ) (s : ThreadState) → UnwindsWithin most_code (run_on p cs fuel s).mode
  run_near fuel s = unwinds_within (length cs) most_code (run_on p cs fuel s).mode few (running p cs fuel s)

  call_near : (s : ThreadState) (c : MonitorCall) (e : Entry) → UnwindsWithin most_code (after_call p cs s c e).mode
  call_near s (call.Wait o) e = tt
  call_near s c e = run_near _ _

  entry_near : (s : ThreadState) (a : NextEntry) (e : Entry) → UnwindsWithin most_code s.mode → UnwindsWithin most_code (after_entry p cs s a e).mode
  entry_near s (asked.Calls c) e h = call_near s c e
  entry_near s (asked.Resumes o) e h = run_near _ _
  entry_near s (asked.Leaves o) e h = h
  entry_near s (asked.Ends g) e h = tt

pub taken_near : (m next : PlainMachine) (t : ℕ) (e : Entry) → IsProgram m.program → TrapsAreNear m → take m t e ≡ Some next → TrapsAreNear next
taken_near m next t e is near h =
    let k = taken m t e next h in
    subst TrapsAreNear k.is
    (all_set (λ (s : ThreadState). UnwindsWithin most_code s.mode) m.threads t (after_entry m.program (code_of m.program t) k.s k.asked e)
    (entry_near m.program (code_of m.program t) (code_near m.program t is) k.s k.asked e
    (all_at (λ (s : ThreadState). UnwindsWithin most_code s.mode) m.threads t k.s near k.at))
    near)
