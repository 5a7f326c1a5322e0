-- The thread of a program that ends at once is spent nowhere.
use Rattle.std.proofs.Common.{◌≡◌, ℕ, zero, suc, ◌≤◌, Bool, true, false, List, [], ◌∷◌, Option, Some, None, refl, sym, ap, ◌∙◌, subst, arith}
use Rattle.std.proofs.lemmas.Bool.{false≢true}
use Rattle.std.proofs.lemmas.Option.{none-some, same_Some}
use Rattle.plain_monitor.specs.declared.entry.Ending.TheVariants.{Done}
use Rattle.plain_monitor.specs.declared.entry.Entry.{Entry}
use Rattle.plain_monitor.specs.declared.entry.Logged.{Logged}
use Rattle.object_program.specs.declared.program.Code.{Code}
use Rattle.object_program.specs.declared.program.Code.TheVariants as code
use Rattle.object_program.specs.Program.{ProgramText}
use Rattle.plain_machine.specs.declared.monitor_call.Mode.{Mode}
use Rattle.plain_machine.specs.declared.monitor_call.Mode.TheVariants.{Unwinding, Ended}
use Rattle.plain_machine.specs.declared.monitor_call.NextEntry.{NextEntry}
use Rattle.plain_machine.specs.Thread.{ThreadState, step_of}
use Rattle.plain_machine.specs.Running.{instruction_at, after_step, run_on}
use Rattle.plain_machine.specs.Asking.{ask, ask_in, held_from, unwinds, after_entry}
use Rattle.plain_machine.specs.Machine.{PlainMachine, new_machine, code_of, take}
use Rattle.machine_laws.specs.Reached.{AtEach}
use Rattle.machine_laws.proofs.ReachedAsked.{taken}
use Rattle.machine_laws.proofs.ReachedLists.{each_set}
use Rattle.every_outcome.specs.Fuel.{with_fuel, is_spent, refuelled, HasSpent}
use Rattle.every_outcome.proofs.Places.{get_unmap}
use Rattle.outcome_search.specs.declared.outcome.Outcomes.{Outcomes}
use Rattle.outcome_search.specs.EveryEnd.{IsEveryEnd}
use Rattle.outcome_search.specs.Outcomes.{top_fuel}
use Rattle.outcome_search.specs.Real.{LeadsRefuelled, IsLed}
use Rattle.outcome_search.specs.SmallPrograms.{idle}
use Rattle.outcome_search.proofs.KnownEnds.{some_fuel}
use Rattle.outcome_search.proofs.SpentKept.{counted_is_led_to}

-- it is at its end
abbrev is_done : Mode → Bool
is_done (Unwinding Done) = true
is_done (Ended Done) = true
is_done mode = false

never_spent : (mode : Mode) → is_done mode ≡ true → is_spent mode ≡ true → ⊥
never_spent (Unwinding Done) done spent = false≢true spent
never_spent (Ended Done) done spent = false≢true spent
never_spent mode done spent = false≢true done

done_stays : (p : ProgramText) (i : List Code) (s : ThreadState) (a : NextEntry) (e : Entry) → is_done s.mode ≡ true → ask s ≡ Some a
    → is_done (after_entry p i s a e).mode ≡ true
done_stays p i s a e done asks = go s.mode refl done asks
  where
    leaves : (held : Option ℕ) → ◌≡◌ {A = Option NextEntry} (Some (unwinds Done held)) (Some a) → is_done (after_entry p i s a e).mode ≡ true
    leaves None h = subst (λ (b : NextEntry). is_done (after_entry p i s b e).mode ≡ true) (same_Some _ _ h) refl
    leaves (Some o) h = subst (λ (b : NextEntry). is_done (after_entry p i s b e).mode ≡ true) (same_Some _ _ h) done

    go : (mode : Mode) → s.mode ≡ mode → is_done mode ≡ true → ask_in s mode ≡ Some a → is_done (after_entry p i s a e).mode ≡ true
    go (Unwinding Done) at h q = leaves (held_from 0 s.holds) q
    go (Ended Done) at h q = absurd (none-some a q)
    go mode at h q = absurd (false≢true h)

abbrev AreDone : PlainMachine → Type 0
AreDone m = AtEach (λ (t : ℕ) (s : ThreadState). is_done s.mode ≡ true) m.threads

done_after : (m n : PlainMachine) (t : ℕ) (e : Entry) → AreDone m → take m t e ≡ Some n → AreDone n
done_after m n t e done takes =
    let k = taken m t e n takes in
    let s2 = after_entry m.program (code_of m.program t) k.s k.asked e in
    subst AreDone k.is
    (each_set (λ (t : ℕ) (s : ThreadState). is_done s.mode ≡ true) m.threads t k.s s2 k.at
    (done_stays m.program (code_of m.program t) k.s k.asked e (done t k.s k.at) k.asks) (λ j z other at. done j z at))

done_full : (m : PlainMachine) → AreDone m → AreDone (refuelled top_fuel m)
done_full m done t s at =
    let u = get_unmap (λ s. with_fuel top_fuel s) m.threads t s at in
    ap (λ (z : ThreadState). is_done z.mode) (sym u.2) ∙ done t u.0 u.1

ends_at_once : (n : ℕ) (s : ThreadState) → 1 ≤ n → s.place ≡ 0 → is_done (run_on idle (code.End ∷ []) n s).mode ≡ true
unfolding run_on
ends_at_once zero s some here = absurd (omega (arith, some))
ends_at_once (suc n) s some here =
    ap (λ (k : ℕ). is_done (after_step s n (step_of idle s (instruction_at (code.End ∷ []) k)) (run_on idle (code.End ∷ []) n)).mode) here

done_first : AreDone (new_machine idle top_fuel)
done_first zero s at = ap (λ (z : ThreadState). is_done z.mode) (sym (same_Some _ s at)) ∙ ends_at_once top_fuel _ some_fuel refl
done_first (suc t) s at = absurd (none-some s at)

led_done : (xs : List (ℕ × Logged)) (m n : PlainMachine) → AreDone m → LeadsRefuelled top_fuel m xs n → AreDone n
led_done [] m n done leads = subst AreDone leads done
led_done (x ∷ xs) m n done leads =
    led_done xs (refuelled top_fuel leads.0) n (done_full leads.0 (done_after m leads.0 x.0 x.1.entry done leads.1)) leads.2

pub idle_is_never_spent : (m : PlainMachine) → IsLed idle top_fuel m → HasSpent m → ⊥
idle_is_never_spent m led spent =
    let done = led_done led.entries (refuelled top_fuel (new_machine idle top_fuel)) m (done_full (new_machine idle top_fuel) done_first) led.leads in
    never_spent spent.state.mode (done spent.thread spent.state spent.at) spent.spent

pub idle_counts_none : (most : ℕ) (o : Outcomes) → IsEveryEnd idle most o → o.spent ≡ 0
idle_counts_none most o h = go o.spent refl
  where
    go : (n : ℕ) → o.spent ≡ n → o.spent ≡ 0
    go zero is = is
    go (suc n) is = let led = counted_is_led_to idle most o h (omega (arith, is)) in absurd (idle_is_never_spent led.0 led.1 led.2)
