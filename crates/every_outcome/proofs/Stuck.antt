-- Fuel has no part in whether a machine is stuck.
use Rattle.std.proofs.Common.{◌≡◌, ◌⊎◌, inl, inr, ℕ, ◌+◌, ◌≤◌, Bool, true, false, List, [], ◌∷◌, map, Option, Some, None, refl, sym, ◌∙◌}
use Rattle.std.specs.List.{list_any}
use Rattle.plain_monitor.specs.declared.entry.Logged.{Logged}
use Rattle.object_program.specs.Program.{ProgramText}
use Rattle.object_program.specs.Valid.{IsProgram}
use Rattle.plain_machine.specs.declared.monitor_call.Mode.{Mode}
use Rattle.plain_machine.specs.declared.monitor_call.Mode.TheVariants.{Waiting}
use Rattle.plain_machine.specs.Thread.{ThreadState}
use Rattle.plain_machine.specs.Asking.{ask}
use Rattle.plain_machine.specs.Machine.{PlainMachine, wanted, is_blocked, is_waiting, is_barred, is_live, all_barred, is_stuck}
use Rattle.plain_machine.specs.Legal.{machine_after}
use Rattle.every_outcome.specs.Covered.{IsSeen}
use Rattle.every_outcome.specs.Fuel.{with_fuel, refuelled, HasSpent, IsClosedFull}
use Rattle.every_outcome.proofs.FullFuel.{ask_full, over_is_known}

waiting_full : (top : ℕ) (m : PlainMachine) (t : ℕ) (mode : Mode) → is_waiting (refuelled top m) t mode ≡ is_waiting m t mode
waiting_full top m t (Waiting o) = refl
waiting_full top m t mode = refl

blocked_full : (top : ℕ) (m : PlainMachine) (t : ℕ) (o : Option ℕ) → is_blocked (refuelled top m) t o ≡ is_blocked m t o
blocked_full top m t None = refl
blocked_full top m t (Some o) = refl

barred_full : (top : ℕ) (m : PlainMachine) (t : ℕ) (s : ThreadState) → is_barred (refuelled top m) t (with_fuel top s) ≡ is_barred m t s
barred_full top m t s = rw (waiting_full top m t s.mode, ask_full top s, blocked_full top m t (wanted (ask s))) refl

all_full : (top : ℕ) (m : PlainMachine) (t : ℕ) (ss : List ThreadState) → all_barred (refuelled top m) t (map (λ s. with_fuel top s) ss) ≡ all_barred m t ss
all_full top m t [] = refl
all_full top m t (s ∷ ss) = rw (barred_full top m t s, all_full top m (t + 1) ss) refl

live_full : (top : ℕ) (ss : List ThreadState) → list_any is_live (map (λ s. with_fuel top s) ss) ≡ list_any is_live ss
live_full top [] = refl
live_full top (s ∷ ss) = rw (live_full top ss) refl

pub stuck_full : (top : ℕ) (m : PlainMachine) → is_stuck (refuelled top m) ≡ is_stuck m
stuck_full top m = rw (live_full top m.threads, all_full top m 0 m.threads) refl

pub none_is_stuck : (p : ProgramText) (fuel top : ℕ) (seen : List PlainMachine) (logs : List (List Logged)) (n : PlainMachine) → IsProgram p
    → IsClosedFull p top seen → fuel ≤ top
    → machine_after p fuel logs ≡ Some n → ((m : PlainMachine) → IsSeen seen m → is_stuck m ≡ false) → HasSpent n ⊎ (is_stuck n ≡ false)
none_is_stuck p fuel top seen logs n valid closed few after free = go (is_stuck n) refl
  where
    known : HasSpent n ⊎ IsSeen seen (refuelled top n) → HasSpent n ⊎ (is_stuck n ≡ false)
    known (inl spent) = inl spent
    known (inr here) = inr (sym (stuck_full top n) ∙ free (refuelled top n) here)

    go : (b : Bool) → is_stuck n ≡ b → HasSpent n ⊎ (is_stuck n ≡ false)
    go true e = known (over_is_known p fuel top seen logs n valid closed few after (inl e))
    go false e = inr e
