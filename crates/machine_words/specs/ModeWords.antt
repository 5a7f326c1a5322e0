-- Modes of threads as two numbers: a kind, and what goes with it. Of a call only is told that the thread stands before one.
use Rattle.std.specs.Prelude.{ℕ, ◌+◌, ◌-◌, ◌==◌, nat_lt, if◌then◌else◌, [], ◌∷◌, slice_index_or}
use Rattle.plain_monitor.specs.declared.entry.Fault.{Fault}
use Rattle.plain_monitor.specs.declared.entry.Fault.TheVariants.{IllegalMonitorState, Unguarded, NotRef, NotInt}
use Rattle.plain_monitor.specs.declared.entry.Fault.TheVariants.{Range, Overflow, TooDeep, TooManyDumps, TooMany}
use Rattle.plain_monitor.specs.declared.entry.Ending.{Ending}
use Rattle.plain_monitor.specs.declared.entry.Ending.TheVariants.{Trap, Spent, Done}
use Rattle.plain_machine.specs.declared.monitor_call.Mode.{Mode}
use Rattle.plain_machine.specs.declared.monitor_call.Mode.TheVariants.{Calling, Waiting, Unwinding, Ended}
use Rattle.plain_machine.specs.Asking.{fault_number}

abbrev pub fault_with : ℕ → Fault
fault_with n =
    slice_index_or
    (IllegalMonitorState ∷ Unguarded ∷ NotRef ∷ NotInt ∷ Range ∷ Overflow ∷ TooDeep ∷ TooManyDumps ∷ []) n TooMany

-- from 0 to 10
abbrev pub ending_kind : Ending → ℕ
ending_kind Done = 0
ending_kind Spent = 1
ending_kind (Trap fault index) = fault_number fault + 2

abbrev pub ending_rest : Ending → ℕ
ending_rest (Trap fault index) = index
ending_rest e = 0

abbrev pub ending_with : ℕ → ℕ → Ending
ending_with kind rest = if kind == 0 then Done else if kind == 1 then Spent else Trap (fault_with (kind - 2)) rest

-- from 0 to 23
abbrev pub mode_kind : Mode → ℕ
mode_kind (Calling c) = 0
mode_kind (Waiting o) = 1
mode_kind (Unwinding e) = ending_kind e + 2
mode_kind (Ended e) = ending_kind e + 13

abbrev pub mode_rest : Mode → ℕ
mode_rest (Calling c) = 0
mode_rest (Waiting o) = o
mode_rest (Unwinding e) = ending_rest e
mode_rest (Ended e) = ending_rest e

-- the mode, where a thread that stands before a call is in this one
abbrev pub mode_with : Mode → ℕ → ℕ → Mode
mode_with calling kind rest =
    if kind == 0 then calling
    else if kind == 1 then Waiting rest
    else if nat_lt kind 13 then Unwinding (ending_with (kind - 2) rest)
    else Ended (ending_with (kind - 13) rest)
