-- An instruction that a frame executes leads to the same call or end.
use Rattle.std.proofs.Common.{◌≡◌, ℕ, ◌-◌, ◌<◌, List, Option, Some, None, ap, sym, ◌∙◌}
use Rattle.plain_monitor.specs.declared.entry.Ending.TheVariants.{Spent, Done}
use Rattle.object_program.specs.declared.program.Code.{Code}
use Rattle.object_program.specs.Program.{ProgramText}
use Rattle.plain_machine.specs.declared.monitor_call.Mode.{Mode}
use Rattle.plain_machine.specs.declared.monitor_call.Mode.TheVariants.{Unwinding}
use Rattle.plain_machine.specs.declared.step.Next.{Next}
use Rattle.plain_machine.specs.declared.step.Next.TheVariants as next
use Rattle.plain_machine.specs.declared.monitor_call.MonitorCall.TheVariants as call
use Rattle.plain_machine.specs.Next.{meant, IsReadyNext}
use Rattle.plain_machine.specs.Running.{instruction_at, run_on}
use Rattle.plain_machine.specs.Thread.{ThreadState, step_of, past, with_local}
use Rattle.plain_machine.proofs.Runs.{run_goes, run_calls, run_stops, run_spent}
use Rattle.thread_frame.specs.Frames.{FrameSeen, state_in, led_on}
use Rattle.thread_frame.specs.inner.Walking.{frame_moved, IsPlacedFor}
use Rattle.thread_frame.proofs.Lists.{take_set}
use Rattle.plain_machine.proofs.Effects.{in_mode}
use Rattle.thread_frame.proofs.Runs.{run_same}

-- the frame with this mode
abbrev in_option : FrameSeen → Option Mode → FrameSeen
in_option f o = record f { mode = o }

walks_in : (p : ProgramText) (cs : List Code) (n : ℕ) (holds : List ℕ) (f : FrameSeen) (x : Next) → 0 < f.fuel
    → step_of p (state_in n holds (in_option f None)) (instruction_at cs f.place) ≡ meant (state_in n holds (in_option f None)) x
    → led_on p cs (frame_moved (in_option f None) x).mode (state_in n holds (frame_moved (in_option f None) x))
    ≡ run_on p cs f.fuel (state_in n holds (in_option f None))
walks_in p cs n holds f (next.Sets x v) l e =
    let s = state_in n holds (in_option f None) in
    let left = f.fuel - 1 in
    let went = past (with_local s x v) in
    ap (λ locals. run_on p cs left (in_mode left (Unwinding Done) (past (record s { locals = locals }))))
    (take_set n f.locals x v)
    ∙ sym (run_same p cs left left (Unwinding Done) went)
    ∙ sym (run_goes p cs f.fuel s went l e)
walks_in p cs n holds f (next.Jumps place) l e =
    let s = state_in n holds (in_option f None) in
    let left = f.fuel - 1 in
    let went : ThreadState = record s { place = place } in
    sym (run_same p cs left left (Unwinding Done) went) ∙ sym (run_goes p cs f.fuel s went l e)
walks_in p cs n holds f (next.Calls c) l e = sym (run_calls p cs f.fuel (state_in n holds (in_option f None)) c l e)
walks_in p cs n holds f (next.Stops g) l e = sym (run_stops p cs f.fuel (state_in n holds (in_option f None)) g l e)

-- where the instruction finds the thread ready, the frame stands where it may
pub placed : (n : ℕ) (holds : List ℕ) (f : FrameSeen) (x : Next) → IsReadyNext (state_in n holds f) x → IsPlacedFor f x
placed n holds f (next.Sets x v) h = h
placed n holds f (next.Jumps place) h = tt
placed n holds f (next.Calls (call.New x c)) h = h
placed n holds f (next.Calls c) h = (h.0, tt)
placed n holds f (next.Stops g) h = tt

-- a frame in the middle of its local instructions
pub walks : (p : ProgramText) (cs : List Code) (n : ℕ) (holds : List ℕ) (f : FrameSeen) (o : Option Mode) (x : Next)
    → o ≡ None → 0 < f.fuel
    → step_of p (state_in n holds (in_option f o)) (instruction_at cs f.place) ≡ meant (state_in n holds (in_option f o)) x
    → led_on p cs (frame_moved (in_option f o) x).mode (state_in n holds (frame_moved (in_option f o) x))
    ≡ led_on p cs o (state_in n holds (in_option f o))
walks p cs n holds f None x is l e = walks_in p cs n holds f x l e
walks p cs n holds f (Some m) x is l e = absurd (cc (is))

-- a frame that has no fuel left, and ends where it is
abbrev spent_at : FrameSeen → ℕ → FrameSeen
spent_at f place = record f { place = place; fuel = 0; mode = Some (Unwinding Spent) }

pub spends : (p : ProgramText) (cs : List Code) (n : ℕ) (holds : List ℕ) (f : FrameSeen) (o : Option Mode) (place : ℕ)
    → o ≡ None → f.fuel ≡ 0 → place ≡ f.place
    → state_in n holds (spent_at f place) ≡ led_on p cs o (state_in n holds (in_option f o))
spends p cs n holds f None place is z at =
    ap (λ k. state_in n holds (spent_at f k)) at ∙ sym (run_spent p cs f.fuel (state_in n holds (in_option f None)) z)
spends p cs n holds f (Some m) place is z at = absurd (cc (is))
