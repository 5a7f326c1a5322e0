-- A thread that hasn't ended has no ending entry in its log.
use Rattle.std.proofs.Common.{◌≡◌, ℕ, zero, suc, not, true, false, List, Option, Some, None, refl, sym, ap, ◌∙◌}
use Rattle.core_world.specs.Clauses.Safepoints.{ends}
use Rattle.heap_table.specs.Seen.{HeapSeen, PassSeen}
use Rattle.object_program.specs.declared.program.Code.{Code}
use Rattle.object_program.specs.Program.{ProgramText}
use Rattle.plain_machine.specs.declared.monitor_call.Mode.{Mode}
use Rattle.plain_machine.specs.declared.monitor_call.Mode.TheVariants.{Ended}
use Rattle.plain_machine.specs.Machine.{code_of, is_live}
use Rattle.plain_machine.specs.Running.{run_on, after_step, instruction_at}
use Rattle.plain_machine.specs.Thread.{ThreadState, Step, Goes, Calls, Stops, step_of}
use Rattle.thread_calls.specs.Between.{IsOn, state_by}
use Rattle.thread_calls.proofs.May.{same_ends}
use Rattle.thread_frame.specs.Frames.{FrameSeen, led_on, state_in, shown_mode, next_state, locals_of, has_ended, is_ended_mode}
use Rattle.thread_logs.proofs.Standing.{ends_told}

-- LOCAL INSTRUCTIONS lead to a call, or to where the thread unwinds.
step_alive : (s : ThreadState) (n : ℕ) (step : Step) (go_on : ThreadState → ThreadState) → ((next : ThreadState) → is_live (go_on next) ≡ true)
    → is_live (after_step s n step go_on) ≡ true
step_alive s n (Goes next) go_on goes = goes next
step_alive s n (Calls c) go_on goes = refl
step_alive s n (Stops ending) go_on goes = refl

runs_alive : (p : ProgramText) (code : List Code) (n : ℕ) (s : ThreadState) → is_live (run_on p code n s) ≡ true
unfolding run_on
runs_alive p code zero s = refl
runs_alive p code (suc n) s =
    step_alive s n (step_of p s (instruction_at code s.place)) (λ next. run_on p code n next) (λ next. runs_alive p code n next)

led_alive : (p : ProgramText) (code : List Code) (mode : Option Mode) (s : ThreadState) → s.mode ≡ shown_mode mode → is_ended_mode mode ≡ false
    → is_live (led_on p code mode s) ≡ true
led_alive p code None s shown live = runs_alive p code s.fuel s
led_alive p code (Some (Ended g)) s shown live = absurd (cc live)
led_alive p code _ s shown live = ap (λ m. is_live (record s { mode = m })) shown

pub frame_alive : (p : ProgramText) (t : ℕ) (holds : List ℕ) (f : FrameSeen) → has_ended f ≡ false → is_live (next_state p t holds f) ≡ true
frame_alive p t holds f live = led_alive p (code_of p t) f.mode (state_in (locals_of p t) holds f) refl live

pub log_goes_on : (h : HeapSeen) (text : ProgramText) (fuel : ℕ) (q : PassSeen) (f : FrameSeen) → IsOn h text fuel q f → has_ended f ≡ false
    → ends q.known.log ≡ false
log_goes_on h text fuel q f on live =
    let told = ends_told text fuel q.known.thread 0 q.known.log (state_by h text q f) on.follows in
    same_ends q.known.log ∙ sym told ∙ ap not (frame_alive text q.known.thread _ f live)
