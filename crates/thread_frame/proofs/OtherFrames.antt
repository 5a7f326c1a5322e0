-- Which frames aren't their threads, and one that is.
use Rattle.std.proofs.Common.{◌≡◌, ◌≢◌, ◌<◌, ◌≤◌, ℕ, true, List, [], ◌∷◌, length, replicate, slice_get, Option, Some, None, refl, ap, sym, ◌∙◌}
use Rattle.std.proofs.Common.{arith, pos, rules, lit<}
use Rattle.std.proofs.lemmas.List.{length-map}
use Rattle.std.proofs.lemmas.Option.{same_Some, slice_get_within}
use Rattle.object_program.specs.declared.program.Code.{Code}
use Rattle.object_program.specs.Program.{ProgramText, objects_total}
use Rattle.object_program.specs.Valid.{IsProgram}
use Rattle.plain_machine.specs.Asking.{ask, after_entry, fits}
use Rattle.plain_machine.specs.Machine.{code_of, new_machine}
use Rattle.plain_machine.specs.Running.{run_on}
use Rattle.plain_machine.specs.Thread.{ThreadState, local}
use Rattle.plain_machine.specs.declared.monitor_call.Mode.{Mode}
use Rattle.plain_machine.specs.declared.monitor_call.Mode.TheVariants.{Calling}
use Rattle.plain_machine.specs.declared.monitor_call.MonitorCall.TheVariants.{Enter}
use Rattle.plain_machine.specs.declared.monitor_call.NextEntry.{NextEntry}
use Rattle.plain_machine.specs.declared.monitor_call.NextEntry.TheVariants.{Calls}
use Rattle.plain_monitor.specs.declared.entry.Entry.{Entry}
use Rattle.plain_monitor.specs.declared.entry.Entry.TheVariants as entry
use Rattle.plain_monitor.specs.declared.entry.Path.TheVariants.{StackFirst}
use Rattle.plain_monitor.specs.declared.entry.Value.TheVariants.{Int}
use Rattle.thread_frame.specs.Examples.{reader, reads, has_read, held, before_reading}
use Rattle.thread_frame.specs.Frames.{FrameSeen, first_frame, frame_after, led_on, locals_of, next_state, state_in}
use Rattle.thread_frame.proofs.Runs.{run_holds}
use Rattle.thread_frame.proofs.Starts.{starts}

led_holds : (p : ProgramText) (c : List Code) (o : Option Mode) (s : ThreadState) → (led_on p c o s).holds ≡ s.holds
led_holds p c None s = run_holds p c s.fuel s
led_holds p c (Some m) s = refl

-- the holds of its thread are those that stand beside the frame
next_holds : (p : ProgramText) (t : ℕ) (holds : List ℕ) (f : FrameSeen) → (next_state p t holds f).holds ≡ holds
next_holds p t holds f = led_holds p (code_of p t) f.mode (state_in (locals_of p t) holds f)

-- FIRST STATES
pub not_held : (p : ProgramText) (fuel t : ℕ) (holds : List ℕ) → IsProgram p → t < length p.threads → holds ≢ replicate (objects_total p) 0
    → slice_get (new_machine p fuel).threads t ≡ Some (next_state p t holds (first_frame fuel)) → ⊥
not_held p fuel t holds valid within other h =
    let none = replicate (objects_total p) 0 in
    let same = same_Some (next_state p t holds (first_frame fuel)) (next_state p t none (first_frame fuel)) (sym h ∙ starts p fuel t valid within) in
    other (sym (next_holds p t holds (first_frame fuel)) ∙ ap (λ (s : ThreadState). s.holds) same ∙ next_holds p t none (first_frame fuel))

pub not_with_less : slice_get (new_machine reader 8).threads 0 ≡ Some (next_state reader 0 (0 ∷ []) (first_frame 7)) → ⊥
unfolding run_on
not_with_less h =
    let same = same_Some _ _ h in
    let fuel : 7 ≡ 6 = ap (λ (s : ThreadState). s.fuel) same in
    absurd (omega (arith, fuel))

pub no_such_thread : (p : ProgramText) (fuel t : ℕ) (f : FrameSeen) (holds : List ℕ) → length p.threads ≤ t
    → slice_get (new_machine p fuel).threads t ≡ Some (next_state p t holds f) → ⊥
no_such_thread p fuel t f holds past h =
    let within = slice_get_within (new_machine p fuel).threads t (next_state p t holds f) h in
    let threads : length (new_machine p fuel).threads ≡ length p.threads = length-map p.threads _ in
    absurd (omega (arith, past, within, threads))

-- MOVES
pub not_beside : (p : ProgramText) (t : ℕ) (f : FrameSeen) (holds after : List ℕ) (a : NextEntry) (e : Entry)
    → after ≢ (after_entry p (code_of p t) (next_state p t holds f) a e).holds
    → next_state p t after (frame_after f a e) ≡ after_entry p (code_of p t) (next_state p t holds f) a e → ⊥
not_beside p t f holds after a e other h =
    other (sym (next_holds p t after (frame_after f a e)) ∙ ap (λ (s : ThreadState). s.holds) h)

pub not_another_value : next_state reader 0 held (frame_after before_reading (Calls reads) (has_read 1))
    ≡ after_entry reader (code_of reader 0) (next_state reader 0 held before_reading) (Calls reads) (has_read 2) → ⊥
unfolding run_on
not_another_value h = let value : Int (pos 1) ≡ Int (pos 2) = ap (λ (s : ThreadState). local s 1) h in absurd (cc value)

pub not_still : next_state reader 0 held before_reading
    ≡ after_entry reader (code_of reader 0) (next_state reader 0 held before_reading) (Calls reads) (has_read 1) → ⊥
unfolding run_on
not_still h =
    let place : 2 ≡ 3 = ap (λ (s : ThreadState). s.place) h in absurd (omega (arith, place))

pub not_midway : next_state reader 0 held (frame_after (first_frame 8) (Calls (Enter 0)) (entry.Enter 0 StackFirst))
    ≡ after_entry reader (code_of reader 0) (next_state reader 0 (0 ∷ []) (first_frame 8)) (Calls (Enter 0)) (entry.Enter 0 StackFirst) → ⊥
unfolding run_on
not_midway h =
    let place : 1 ≡ 2 = ap (λ (s : ThreadState). s.place) h in absurd (omega (arith, place))

-- A FRAME
pub is_program : IsProgram reader × (0 < length reader.threads)
is_program = (
  record {
    class_names = search;
    class_slots = (omega arith, tt);
    classes_few = omega arith;
    object_names = search;
    objects = ((omega arith, refl, omega arith, λ e. refl), tt);
    objects_few = omega arith;
    thread_names = search;
    threads = (
      record {
        locals = search;
        locals_few = omega arith;
        labels = search;
        targets = search arith;
        code = search (arith, lit<);
        code_few = omega arith;
        ends = search rules;
      },
      tt,
    );
    threads_some = omega arith;
    threads_few = omega arith;
  },
  omega arith,
)

pub stands : (before_reading.mode ≡ Some (Calling reads))
    × (ask (next_state reader 0 held before_reading) ≡ Some (Calls reads)) × (fits (Calls reads) (has_read 5) ≡ true)
    × (held ≡ (after_entry reader (code_of reader 0) (next_state reader 0 held before_reading) (Calls reads) (has_read 5)).holds)
unfolding run_on
stands = (refl, refl, refl, refl)
