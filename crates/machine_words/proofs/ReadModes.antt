-- A mode is read from its kind and what goes with it.
use Rattle.std.proofs.Common.{◌≡◌, ◌+◌, ◌<◌, ◌≤◌, refl, arith}
use Rattle.plain_monitor.specs.declared.entry.Fault.{Fault}
use Rattle.plain_monitor.specs.declared.entry.Fault.TheVariants.{IllegalMonitorState}
use Rattle.plain_monitor.specs.declared.entry.Ending.{Ending}
use Rattle.plain_monitor.specs.declared.entry.Ending.TheVariants.{Trap, Spent, Done}
use Rattle.plain_machine.specs.declared.monitor_call.Mode.{Mode}
use Rattle.plain_machine.specs.declared.monitor_call.Mode.TheVariants.{Calling, Waiting, Unwinding, Ended}
use Rattle.plain_machine.specs.Asking.{fault_number}
use Rattle.machine_words.specs.ModeWords.{ending_kind, ending_rest, mode_kind, mode_rest, mode_with}

fault_small : (f : Fault) → fault_number f ≤ 8
fault_small IllegalMonitorState = omega arith
fault_small _ = omega arith

ending_small : (e : Ending) → ending_kind e ≤ 10
ending_small Done = omega arith
ending_small Spent = omega arith
ending_small (Trap f i) = omega (arith, fault_small f)

pub mode_small : (mode : Mode) → mode_kind mode < 32
mode_small (Calling c) = omega arith
mode_small (Waiting o) = omega arith
mode_small (Unwinding e) = omega (arith, ending_small e)
mode_small (Ended e) = omega (arith, ending_small e)

-- where the thread stands before a call, the mode that is taken for it is this one
abbrev pub IsCallingIn : Mode → Mode → Type 0
IsCallingIn calling (Calling c) = calling ≡ Calling c
IsCallingIn calling mode = Unit {0}

unwinding_back : (calling : Mode) (e : Ending) → mode_with calling (ending_kind e + 2) (ending_rest e) ≡ Unwinding e
unwinding_back calling Done = refl
unwinding_back calling Spent = refl
unwinding_back calling (Trap IllegalMonitorState i) = refl
unwinding_back calling (Trap _ i) = refl

ended_back : (calling : Mode) (e : Ending) → mode_with calling (ending_kind e + 13) (ending_rest e) ≡ Ended e
ended_back calling Done = refl
ended_back calling Spent = refl
ended_back calling (Trap IllegalMonitorState i) = refl
ended_back calling (Trap _ i) = refl

pub mode_back : (calling mode : Mode) → IsCallingIn calling mode → mode_with calling (mode_kind mode) (mode_rest mode) ≡ mode
mode_back calling (Calling c) h = h
mode_back calling (Waiting o) h = refl
mode_back calling (Unwinding e) h = unwinding_back calling e
mode_back calling (Ended e) h = ended_back calling e
