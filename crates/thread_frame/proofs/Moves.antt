-- A frame moves on as the plain machine's thread does.
use Rattle.std.proofs.Common.{◌≡◌, ℕ, ◌+◌, ◌-◌, pos, List, slice_set, Option, Some, None, refl, ap, sym, ◌∙◌}
use Rattle.plain_monitor.specs.declared.entry.Ending.TheVariants.{Done}
use Rattle.plain_monitor.specs.declared.entry.Entry.{Entry}
use Rattle.plain_monitor.specs.declared.entry.Entry.TheVariants as entry
use Rattle.plain_monitor.specs.declared.entry.Value.{Value}
use Rattle.plain_monitor.specs.declared.entry.Value.TheVariants.{Int, Ref}
use Rattle.object_program.specs.declared.program.Code.{Code}
use Rattle.object_program.specs.Program.{ProgramText}
use Rattle.plain_machine.specs.declared.monitor_call.MonitorCall.{MonitorCall}
use Rattle.plain_machine.specs.declared.monitor_call.MonitorCall.TheVariants as call
use Rattle.plain_machine.specs.declared.monitor_call.Mode.{Mode}
use Rattle.plain_machine.specs.declared.monitor_call.Mode.TheVariants.{Calling, Unwinding}
use Rattle.plain_machine.specs.declared.monitor_call.NextEntry.{NextEntry}
use Rattle.plain_machine.specs.declared.monitor_call.NextEntry.TheVariants.{Calls, Resumes, Leaves, Ends}
use Rattle.plain_machine.specs.Asking.{answered, after_call, after_entry}
use Rattle.plain_machine.specs.Running.{run_on}
use Rattle.plain_machine.specs.Thread.{past, with_local}
use Rattle.thread_frame.specs.Frames.{FrameSeen, before_call, state_in, led_on, frame_answered, frame_after_call, frame_after}
use Rattle.thread_frame.proofs.Lists.{take_set}
use Rattle.plain_machine.proofs.Effects.{in_mode}
use Rattle.thread_frame.proofs.Runs.{run_same, run_holds}

-- the frame at this place, with so much fuel, in the middle of its local instructions
abbrev goes_on : ℕ → ℕ → FrameSeen → FrameSeen
goes_on place fuel f = record f { place = place; fuel = fuel; mode = None }

-- what an answer changes, it changes wherever the frame stands
pub answered_later : (f : FrameSeen) (c : MonitorCall) (e : Entry) (place fuel : ℕ) (mode : Option Mode)
    → frame_answered (record f { place = place; fuel = fuel; mode = mode }) c e ≡ record (frame_answered f c e) { place = place; fuel = fuel; mode = mode }
answered_later f (call.Get x o k) (entry.Get object slot value) place fuel mode = refl
answered_later f (call.Hash x o) (entry.Hash object value drawn) place fuel mode = refl
answered_later f (call.New x c) (entry.New object class) place fuel mode = refl
answered_later f _ e place fuel mode = refl

-- a frame that doesn't stand before the call goes on after it as one that does
pub after_before : (f : FrameSeen) (c : MonitorCall) (e : Entry) → frame_after_call (before_call f c) c e ≡ frame_after_call f c e
after_before f (call.Wait o) e = refl
after_before f c e =
    ap (λ (g : FrameSeen). record g { place = f.place + 1; fuel = f.fuel - 1; mode = None })
    (answered_later f c e f.place f.fuel (Some (Calling c)))

-- a local that an answer sets
set_same : (n fuel x : ℕ) (f : FrameSeen) (v : Value) (holds after : List ℕ) → after ≡ holds
    → state_in n after (goes_on (f.place + 1) fuel (record f { locals = slice_set f.locals x v }))
    ≡ in_mode fuel (Unwinding Done) (past (with_local (state_in n holds f) x v))
set_same n fuel x f v holds after h =
    ap (λ hs. state_in n hs (goes_on (f.place + 1) fuel (record f { locals = slice_set f.locals x v }))) h
    ∙ ap (λ locals. in_mode fuel (Unwinding Done) (past (record (state_in n holds f) { locals = locals })))
    (take_set n f.locals x v)

-- and what else an answer does
answered_same : (n fuel : ℕ) (f : FrameSeen) (c : MonitorCall) (e : Entry) (holds after : List ℕ)
    → after ≡ (answered (state_in n holds f) c e).holds
    → state_in n after (goes_on (f.place + 1) fuel (frame_answered f c e))
    ≡ in_mode fuel (Unwinding Done) (past (answered (state_in n holds f) c e))
answered_same n fuel f (call.Get x o k) (entry.Get object slot v) holds after h = set_same n fuel x f v holds after h
answered_same n fuel f (call.Get x o k) e holds after h = ap (λ hs. state_in n hs (goes_on (f.place + 1) fuel f)) h
answered_same n fuel f (call.Hash x o) (entry.Hash object value drawn) holds after h =
    set_same n fuel x f (Int (pos value)) holds after h
answered_same n fuel f (call.Hash x o) e holds after h = ap (λ hs. state_in n hs (goes_on (f.place + 1) fuel f)) h
answered_same n fuel f (call.New x c) (entry.New object class) holds after h =
    set_same n fuel x (record f { made = f.made + 1 }) (Ref object) holds after h
answered_same n fuel f (call.New x c) e holds after h = ap (λ hs. state_in n hs (goes_on (f.place + 1) fuel f)) h
answered_same n fuel f (call.Dump number) e holds after h =
    ap (λ hs. state_in n hs (goes_on (f.place + 1) fuel (record f { dumps = number }))) h
answered_same n fuel f c e holds after h = ap (λ hs. state_in n hs (goes_on (f.place + 1) fuel f)) h

runs_same : (p : ProgramText) (cs : List Code) (n : ℕ) (f : FrameSeen) (c : MonitorCall) (e : Entry)
    (holds after : List ℕ)
    → after ≡ (run_on p cs (f.fuel - 1) (past (answered (state_in n holds f) c e))).holds
    → run_on p cs (f.fuel - 1) (state_in n after (goes_on (f.place + 1) (f.fuel - 1) (frame_answered f c e)))
    ≡ run_on p cs (f.fuel - 1) (past (answered (state_in n holds f) c e))
runs_same p cs n f c e holds after h =
    let s = past (answered (state_in n holds f) c e) in
    ap (run_on p cs (f.fuel - 1)) (answered_same n (f.fuel - 1) f c e holds after (h ∙ run_holds p cs (f.fuel - 1) s))
    ∙ sym (run_same p cs (f.fuel - 1) (f.fuel - 1) (Unwinding Done) s)

calls_same : (p : ProgramText) (cs : List Code) (n : ℕ) (f : FrameSeen) (c : MonitorCall) (e : Entry)
    (holds after : List ℕ)
    → after ≡ (after_call p cs (state_in n holds f) c e).holds
    → led_on p cs (frame_after_call f c e).mode (state_in n after (frame_after_call f c e))
    ≡ after_call p cs (state_in n holds f) c e
calls_same p cs n f (call.Wait o) e holds after h =
    ap (λ hs. state_in n hs (frame_after_call f (call.Wait o) e)) h
calls_same p cs n f c e holds after h = runs_same p cs n f c e holds after h

-- a frame that stands before a call, a resume, or its end
abbrev stands : FrameSeen → Mode → FrameSeen
stands f m = record f { mode = Some m }

moves_in : (p : ProgramText) (cs : List Code) (n : ℕ) (f : FrameSeen) (m : Mode) (a : NextEntry) (e : Entry)
    (holds after : List ℕ)
    → after ≡ (after_entry p cs (state_in n holds (stands f m)) a e).holds
    → led_on p cs (frame_after (stands f m) a e).mode (state_in n after (frame_after (stands f m) a e))
    ≡ after_entry p cs (state_in n holds (stands f m)) a e
moves_in p cs n f m (Calls c) e holds after h = calls_same p cs n (stands f m) c e holds after h
moves_in p cs n f m (Resumes o) e holds after h =
    let s = state_in n holds (stands f m) in
    ap (λ hs. run_on p cs f.fuel (state_in n hs (record f { mode = None }))) (h ∙ run_holds p cs f.fuel s)
    ∙ sym (run_same p cs f.fuel f.fuel (Unwinding Done) s)
moves_in p cs n f m (Leaves o) e holds after h = ap (λ hs. state_in n hs (stands f m)) h
moves_in p cs n f m (Ends g) e holds after h = ap (λ hs. state_in n hs (frame_after f (Ends g) e)) h

-- the frame with this mode
abbrev in_option : FrameSeen → Option Mode → FrameSeen
in_option f o = record f { mode = o }

-- a frame that isn't in the middle of its local instructions
pub moves : (p : ProgramText) (cs : List Code) (n : ℕ) (f : FrameSeen) (o : Option Mode) (m : Mode) (a : NextEntry)
    (e : Entry) (holds after : List ℕ)
    → o ≡ Some m → after ≡ (after_entry p cs (led_on p cs o (state_in n holds (in_option f o))) a e).holds
    → led_on p cs (frame_after (in_option f o) a e).mode (state_in n after (frame_after (in_option f o) a e))
    ≡ after_entry p cs (led_on p cs o (state_in n holds (in_option f o))) a e
moves p cs n f None m a e holds after is h = absurd (cc (is))
moves p cs n f (Some mode) m a e holds after is h = moves_in p cs n f mode a e holds after h
