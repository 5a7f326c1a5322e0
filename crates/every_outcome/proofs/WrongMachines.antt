-- Why what is said of entries, lists and machines is refused where it is wrong.
use Rattle.std.proofs.Common.{◌≡◌, ◌≢◌, ◌⊎◌, inl, inr, ℕ, zero, suc, ◌+◌, Bool, true, false, not, List, [], ◌∷◌, slice_get}
use Rattle.std.proofs.Common.{Option, Some, None, refl, sym, ap, ◌∙◌, subst}
use Rattle.std.specs.List.{list_all}
use Rattle.std.proofs.lemmas.Bool.{false≢true}
use Rattle.std.proofs.lemmas.Option.{none-some, same_Some}
use Rattle.plain_monitor.specs.declared.entry.Entry.TheVariants.{Hash, Done}
use Rattle.plain_monitor.specs.declared.entry.Value.TheVariants.{Ref}
use Rattle.plain_monitor.specs.Order.{order}
use Rattle.object_program.specs.declared.program.Code.{Code}
use Rattle.object_program.specs.declared.program.Code.TheVariants as code
use Rattle.object_program.specs.Program.{ProgramText}
use Rattle.plain_machine.specs.declared.monitor_call.MonitorCall.{MonitorCall}
use Rattle.plain_machine.specs.declared.monitor_call.MonitorCall.TheVariants as call
use Rattle.plain_machine.specs.declared.monitor_call.Mode.TheVariants.{Calling, Waiting}
use Rattle.plain_machine.specs.Thread.{ThreadState}
use Rattle.plain_machine.specs.Running.{instruction_at, run_on}
use Rattle.plain_machine.specs.Legal.{after_all, machine_after}
use Rattle.plain_machine.specs.Machine.{PlainMachine, code_of, is_live, is_stuck, new_machine, take}
use Rattle.machine_laws.specs.Examples.{logged, printed, printers, waited, waiter}
use Rattle.machine_laws.proofs.Ended.{same_shape}
use Rattle.every_outcome.specs.Covered.{IsSeen}
use Rattle.every_outcome.specs.Fuel.{HasSpent, is_spent, refuelled, with_fuel}
use Rattle.every_outcome.specs.Led.{IsAfterLogs}
use Rattle.every_outcome.specs.NoHash.{AsksNoHash, asks_hash}
use Rattle.every_outcome.specs.Stands.{AllStand, IsAtCall}
use Rattle.every_outcome.proofs.NoHash.{makes_none}
use Rattle.every_outcome.proofs.Places.{get_unmap}
use Rattle.every_outcome.proofs.Printers.{over, over_after, not_spent}
use Rattle.every_outcome.proofs.Standing.{calls_told}

-- LISTS. In a list of one machine another isn't seen
only_one : (m n : PlainMachine) → IsSeen (m ∷ []) n → m ≡ n
only_one m n (zero, at) = same_Some m n at
only_one m n (suc k, at) = absurd (none-some n at)

abbrev have_ended : PlainMachine → Bool
have_ended m = list_all (λ s. not (is_live s)) m.threads

at_end : (n : PlainMachine) → machine_after printers 8 printed ≡ Some n → over 3 6 ≡ n
at_end n h = same_Some (over 3 6) n (sym over_after ∙ h)

pub closed_not : (n : PlainMachine) → machine_after printers 8 printed ≡ Some n → IsSeen (new_machine printers 8 ∷ []) n → ⊥
unfolding run_on
closed_not n h seen =
    let both : false ≡ true = ap have_ended (only_one (new_machine printers 8) n seen ∙ sym (at_end n h)) in
    false≢true both

pub full_not : (n : PlainMachine) → machine_after printers 8 printed ≡ Some n
    → HasSpent n ⊎ IsSeen (refuelled 8 (new_machine printers 8) ∷ []) (refuelled 8 n) → ⊥
unfolding run_on
full_not n h (inl spent) = not_spent (over 3 6) (refl, (refl, tt)) (subst HasSpent (sym (at_end n h)) spent)
full_not n h (inr seen) =
    let both : false ≡ true =
    ap have_ended (only_one (refuelled 8 (new_machine printers 8)) (refuelled 8 n) seen ∙ ap (refuelled 8) (sym (at_end n h))) in
    false≢true both

-- the waiting thread for ever
abbrev stuck : PlainMachine
stuck = record {
  program = waiter;
  objects = record { monitor = record { owner = None; count = 0; waits = (0, 1) ∷ []; called = [] }; slots = Ref 0 ∷ []; hash = None } ∷ [];
  made = [] ∷ [];
  threads = record { place = 4; locals = Ref 0 ∷ []; fuel = 4; holds = 1 ∷ []; dumps = 0; made = 0; mode = Waiting 0 } ∷ [];
}

stuck_after : machine_after waiter 8 waited ≡ Some stuck
unfolding run_on
stuck_after = refl

pub stuck_not : (n : PlainMachine) → machine_after waiter 8 waited ≡ Some n → HasSpent n ⊎ (is_stuck n ≡ false) → ⊥
stuck_not n h is = go (same_Some stuck n (sym stuck_after ∙ h)) is
  where
    go : stuck ≡ n → HasSpent n ⊎ (is_stuck n ≡ false) → ⊥
    go same (inl spent) = not_spent stuck (refl, tt) (subst HasSpent (sym same) spent)
    go same (inr goes) = let both : true ≡ false = ap is_stuck same ∙ goes in false≢true (sym both)

-- LED
pub other_program_not : (p : ProgramText) (fuel : ℕ) (m : PlainMachine) → m.program ≢ p → IsAfterLogs p fuel m → ⊥
other_program_not p fuel m apart h = apart (same_shape (new_machine p fuel) m (order h.logs) h.under).program

pub entry_not : (r : PlainMachine)
    → (n : PlainMachine) × (after_all (new_machine printers 16) ((0, logged 1 Done) ∷ []) ≡ Some n) × (refuelled 8 n ≡ r) → ⊥
unfolding run_on
entry_not r h = none-some h.0 h.1

pub fuel_not : (p : ProgramText) (fuel top t : ℕ) (xs : List (ℕ × _)) (r : PlainMachine) (s : ThreadState) → slice_get r.threads t ≡ Some s → s.fuel ≢ top
    → (n : PlainMachine) × (after_all (new_machine p fuel) xs ≡ Some n) × (refuelled top n ≡ r) → ⊥
fuel_not p fuel top t xs r s at other h =
    let u = get_unmap (λ s. with_fuel top s) h.0.threads t s (subst (λ (z : PlainMachine). slice_get z.threads t ≡ Some s) (sym h.2) at) in
    other (ap (λ (z : ThreadState). z.fuel) (sym u.2))

-- THREADS
pub spent_not : (p : ProgramText) (g top : ℕ) (s : ThreadState) → s.place ≡ 0
    → with_fuel top (run_on p (code.End ∷ []) (0 + 1) (with_fuel g s)) ≡ with_fuel top (run_on p (code.End ∷ []) 0 s) → ⊥
unfolding run_on
spent_not p g top s at h =
    let ends : is_spent (run_on p (code.End ∷ []) 1 (with_fuel g s)).mode ≡ false = rw at refl in
    let both : is_spent (run_on p (code.End ∷ []) 1 (with_fuel g s)).mode ≡ true = ap (λ (z : ThreadState). is_spent z.mode) h in
    false≢true (sym ends ∙ both)

pub hash_not : (m n : PlainMachine) (t o v : ℕ) (drawn : Option ℕ) → take m t (Hash o v drawn) ≡ Some n → AsksNoHash m → ⊥
hash_not m n t o v drawn takes none = false≢true (sym (makes_none m n t (Hash o v drawn) none takes))

pub before_not : (m : PlainMachine) (t x o : ℕ) (s : ThreadState) → slice_get m.threads t ≡ Some s → s.mode ≡ Calling (call.Hash x o) → AsksNoHash m → ⊥
before_not m t x o s at mode none = false≢true (sym (none.threads t s at) ∙ ap asks_hash mode)

pub end_not : (m : PlainMachine) (t : ℕ) (s : ThreadState) (c : MonitorCall) → slice_get m.threads t ≡ Some s → s.mode ≡ Calling c
    → instruction_at (code_of m.program t) s.place ≡ code.End → AllStand m → ⊥
end_not m t s c at mode end stands =
    let calls = subst (IsAtCall m.program (code_of m.program t) s) mode (stands t s at) in
    absurd (cc (rw end at calls))

pub two_not : (p : ProgramText) (instructions : List Code) (s : ThreadState) (fuel fuel2 : ℕ) (c d : MonitorCall) → c ≢ d
    → IsAtCall p instructions (record s { fuel = fuel; mode = Calling c }) (Calling c)
    → IsAtCall p instructions (record s { fuel = fuel2; mode = Calling d }) (Calling d) → ⊥
two_not p instructions s fuel fuel2 c d apart stands stands2 = apart (calls_told p instructions s fuel fuel2 c d stands stands2)
