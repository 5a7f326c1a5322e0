-- A thread that stands before a call stands at an instruction that leads to this call.
use Rattle.std.proofs.Common.{◌≡◌, ℕ, zero, suc, ◌+◌, ◌-◌, List, [], ◌∷◌, map, slice_get, slice_index_or, Option, Some, refl, sym, ap, ◌∙◌, subst}
use Rattle.std.proofs.lemmas.Option.{none-some, same_Some}
use Rattle.plain_monitor.specs.declared.entry.Entry.{Entry}
use Rattle.object_program.specs.declared.program.Code.{Code}
use Rattle.object_program.specs.declared.program.ThreadDef.{ThreadDef}
use Rattle.object_program.specs.Program.{ProgramText}
use Rattle.plain_machine.specs.declared.monitor_call.MonitorCall.{MonitorCall}
use Rattle.plain_machine.specs.declared.monitor_call.MonitorCall.TheVariants as call
use Rattle.plain_machine.specs.declared.monitor_call.Mode.{Mode}
use Rattle.plain_machine.specs.declared.monitor_call.Mode.TheVariants.{Calling}
use Rattle.plain_machine.specs.declared.monitor_call.NextEntry.{NextEntry}
use Rattle.plain_machine.specs.declared.monitor_call.NextEntry.TheVariants as asked
use Rattle.plain_machine.specs.Thread.{ThreadState, Step, Goes, Calls, Stops, step_of}
use Rattle.plain_machine.specs.Running.{instruction_at, run_on, first_state}
use Rattle.plain_machine.specs.Asking.{ask, ask_in, after_call, after_entry}
use Rattle.plain_machine.specs.Machine.{PlainMachine, new_machine, code_of, take}
use Rattle.machine_laws.proofs.ReachedLists.{each_set}
use Rattle.machine_laws.proofs.ReachedAsked.{taken}
use Rattle.every_outcome.specs.Fuel.{with_fuel, refuelled}
use Rattle.every_outcome.specs.Stands.{IsAtCall, AllStand}
use Rattle.every_outcome.proofs.Places.{get_unmap}
use Rattle.plain_machine.proofs.Effects.{in_mode}
use Rattle.every_outcome.proofs.SameSteps.{step_with, step_same}

pub run_stands : (n : ℕ) (p : ProgramText) (c : List Code) (s : ThreadState) → IsAtCall p c (run_on p c n s) (run_on p c n s).mode
unfolding run_on
run_stands zero p c s = tt
run_stands (suc n) p c s = go (step_of p s (instruction_at c s.place)) refl (λ next. run_stands n p c next)
  where
    go : (st : Step) → step_of p s (instruction_at c s.place) ≡ st → ((next : ThreadState) → IsAtCall p c (run_on p c n next) (run_on p c n next).mode)
        → IsAtCall p c (run_on p c (suc n) s) (run_on p c (suc n) s).mode
    go (Goes next) e ih = rw e (ih next)
    go (Calls k) e ih = rw e (step_same (n + 1) (Calling k) p s (instruction_at c s.place) ∙ ap (step_with (n + 1) (Calling k)) e)
    go (Stops x) e ih = rw e tt

call_stands : (p : ProgramText) (i : List Code) (s : ThreadState) (c : MonitorCall) (e : Entry)
    → IsAtCall p i (after_call p i s c e) (after_call p i s c e).mode
call_stands p i s (call.Wait o) e = tt
call_stands p i s c e = run_stands (s.fuel - 1) p i _

left_mode : (s : ThreadState) (mode : Mode) (o : ℕ) → ask_in s mode ≡ Some (asked.Leaves o) → (p : ProgramText) (i : List Code) (u : ThreadState)
    → IsAtCall p i u mode
left_mode s (Calling c) o h p i u = absurd (no_call c h)
  where
    no_call : (c : MonitorCall) → ◌≡◌ {A = Option NextEntry} (Some (asked.Calls c)) (Some (asked.Leaves o)) → ⊥
    no_call c h = cc
left_mode s _ o h p i u = tt

-- so it is after each entry
pub entry_stands : (p : ProgramText) (i : List Code) (s : ThreadState) (a : NextEntry) (e : Entry) → ask s ≡ Some a
    → IsAtCall p i (after_entry p i s a e) (after_entry p i s a e).mode
entry_stands p i s (asked.Calls c) e h = call_stands p i s c e
entry_stands p i s (asked.Resumes o) e h = run_stands s.fuel p i s
entry_stands p i s (asked.Leaves o) e h = left_mode s s.mode o h p i _
entry_stands p i s (asked.Ends x) e h = tt

pub all_stand_after : (m n : PlainMachine) (t : ℕ) (e : Entry) → AllStand m → take m t e ≡ Some n → AllStand n
all_stand_after m n t e h takes =
    let k = taken m t e n takes in
    let s2 = after_entry m.program (code_of m.program t) k.s k.asked e in
    let here : IsAtCall m.program (code_of m.program t) s2 s2.mode = entry_stands m.program (code_of m.program t) k.s k.asked e k.asks in
    subst AllStand k.is
    (each_set (λ (t : ℕ) (s : ThreadState). IsAtCall m.program (code_of m.program t) s s.mode) m.threads t k.s s2 k.at here (λ j z other at. h j z at))

first_stands : (ts : List ThreadDef) (p : ProgramText) (fuel k : ℕ) (s : ThreadState) → slice_get (map (λ t. first_state p t fuel) ts) k ≡ Some s
    → IsAtCall p (slice_index_or (map (λ d. d.code) ts) k []) s s.mode
first_stands [] p fuel k s at = absurd (none-some s at)
first_stands (d ∷ ts) p fuel zero s at =
    subst (λ (z : ThreadState). IsAtCall p d.code z z.mode) (same_Some (first_state p d fuel) s at) (run_stands fuel p d.code _)
first_stands (d ∷ ts) p fuel (suc k) s at = first_stands ts p fuel k s at

pub all_stand_first : (p : ProgramText) (fuel : ℕ) → AllStand (new_machine p fuel)
all_stand_first p fuel = λ t s at. first_stands p.threads p fuel t s at

stands_full : (top : ℕ) (p : ProgramText) (i : List Code) (s : ThreadState) (mode : Mode) → IsAtCall p i s mode → IsAtCall p i (with_fuel top s) mode
stands_full top p i s (Calling c) h = step_same top s.mode p s (instruction_at i s.place) ∙ ap (step_with top s.mode) h
stands_full top p i s _ h = tt

-- with any fuel
pub all_stand_full : (top : ℕ) (m : PlainMachine) → AllStand m → AllStand (refuelled top m)
all_stand_full top m h t s at =
    let u = get_unmap (λ s. with_fuel top s) m.threads t s at in
    subst (λ (z : ThreadState). IsAtCall m.program (code_of m.program t) z z.mode) u.2
    (stands_full top m.program (code_of m.program t) u.0 u.0.mode (h t u.0 u.1))

-- two threads that stand before calls, and differ in their fuel and these calls alone, stand before the same
pub calls_told : (p : ProgramText) (i : List Code) (s : ThreadState) (fuel fuel2 : ℕ) (c d : MonitorCall)
    → IsAtCall p i (in_mode fuel (Calling c) s) (Calling c) → IsAtCall p i (in_mode fuel2 (Calling d) s) (Calling d) → c ≡ d
calls_told p i s fuel fuel2 c d stands stands2 = same_call (sym again ∙ stands2)
  where
    again : step_of p (in_mode fuel2 (Calling d) s) (instruction_at i s.place) ≡ Calls c
    again = step_same fuel2 (Calling d) p (in_mode fuel (Calling c) s) (instruction_at i s.place) ∙ ap (step_with fuel2 (Calling d)) stands

    same_call : Calls c ≡ Calls d → c ≡ d
    same_call h = cc
