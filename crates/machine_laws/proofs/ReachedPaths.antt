-- Neither the path of an enter nor the draw of a hash changes what a machine makes of it.
use Rattle.std.proofs.Common.{◌≡◌, ℕ, if◌then◌else◌, List, slice_get, Option, Some, None, option_and_then, refl, ap, ◌∙◌}
use Rattle.plain_monitor.specs.declared.entry.Path.{Path}
use Rattle.plain_monitor.specs.declared.entry.Entry.{Entry}
use Rattle.plain_monitor.specs.declared.entry.Entry.TheVariants.{Enter, Hash}
use Rattle.plain_monitor.specs.Objects.{take_entry}
use Rattle.object_program.specs.declared.program.Code.{Code}
use Rattle.object_program.specs.Program.{ProgramText}
use Rattle.plain_machine.specs.declared.monitor_call.MonitorCall.TheVariants as call
use Rattle.plain_machine.specs.declared.monitor_call.NextEntry.{NextEntry}
use Rattle.plain_machine.specs.declared.monitor_call.NextEntry.TheVariants.{Calls, Ends}
use Rattle.plain_monitor.specs.declared.entry.Ending.TheVariants as ending
use Rattle.plain_machine.specs.Thread.{ThreadState}
use Rattle.plain_machine.specs.Asking.{ask, fits, after_entry, thread_after}
use Rattle.plain_machine.specs.Machine.{PlainMachine, code_of, made_after_entry, moved, take}

-- what a thread that asks this becomes with the entry, where it fits
abbrev after_asked : ProgramText → List Code → ThreadState → Entry → NextEntry → Option ThreadState
after_asked p code s e a = if fits a e then Some (after_entry p code s a e) else None

after_path : (p : ProgramText) (code : List Code) (s : ThreadState) (o : ℕ) (x y : Path) (a : NextEntry)
    → after_asked p code s (Enter o x) a ≡ after_asked p code s (Enter o y) a
after_path p code s o x y (Calls (call.Enter k)) = refl
after_path p code s o x y (Calls c) = refl
after_path p code s o x y (Ends (ending.Trap f i)) = refl
after_path p code s o x y (Ends g) = refl
after_path p code s o x y _ = refl

after_drawn : (p : ProgramText) (code : List Code) (s : ThreadState) (o v : ℕ) (x y : Option ℕ) (a : NextEntry)
    → after_asked p code s (Hash o v x) a ≡ after_asked p code s (Hash o v y) a
after_drawn p code s o v x y (Calls (call.Hash z k)) = refl
after_drawn p code s o v x y (Calls c) = refl
after_drawn p code s o v x y (Ends (ending.Trap f i)) = refl
after_drawn p code s o v x y (Ends g) = refl
after_drawn p code s o v x y _ = refl

-- entries that each thread and the objects make the same of are the same to the machine
same_after : (p : ProgramText) (code : List Code) (s : ThreadState) (d e : Entry) (r : Option NextEntry)
    → ((a : NextEntry) → after_asked p code s d a ≡ after_asked p code s e a)
    → option_and_then (after_asked p code s d) r ≡ option_and_then (after_asked p code s e) r
same_after p code s d e None h = refl
same_after p code s d e (Some a) h = h a

same_moved : (m : PlainMachine) (t : ℕ) (d e : Entry) (r : Option ThreadState)
    → ((s : ThreadState) (a : NextEntry) → after_asked m.program (code_of m.program t) s d a ≡ after_asked m.program (code_of m.program t) s e a)
    → made_after_entry m t d ≡ made_after_entry m t e → take_entry m.objects t d ≡ take_entry m.objects t e
    → option_and_then (λ s. moved m t (thread_after m.program (code_of m.program t) s d) (made_after_entry m t d) (take_entry m.objects t d)) r
    ≡ option_and_then (λ s. moved m t (thread_after m.program (code_of m.program t) s e) (made_after_entry m t e) (take_entry m.objects t e)) r
same_moved m t d e None h made same = refl
same_moved m t d e (Some s) h made same =
    ap (λ x. moved m t x (made_after_entry m t d) (take_entry m.objects t d)) (same_after m.program (code_of m.program t) s d e (ask s) (h s))
    ∙ ap (λ x. moved m t (thread_after m.program (code_of m.program t) s e) x (take_entry m.objects t d)) made
    ∙ ap (moved m t (thread_after m.program (code_of m.program t) s e) (made_after_entry m t e)) same

pub path_changes_nothing : (m : PlainMachine) (t o : ℕ) (p q : Path) → take m t (Enter o p) ≡ take m t (Enter o q)
path_changes_nothing m t o p q =
    same_moved m t (Enter o p) (Enter o q) (slice_get m.threads t) (λ s a. after_path m.program (code_of m.program t) s o p q a) refl refl

pub draw_changes_nothing : (m : PlainMachine) (t o value : ℕ) (p q : Option ℕ) → take m t (Hash o value p) ≡ take m t (Hash o value q)
draw_changes_nothing m t o value p q = same_moved m t (Hash o value p) (Hash o value q)
    (slice_get m.threads t) (λ s a. after_drawn m.program (code_of m.program t) s o value p q a) refl refl
