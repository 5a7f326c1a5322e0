-- Why machines without fuel, or with other holds than a reached one, aren't reached, and another entry leads elsewhere.
use Rattle.std.proofs.Common.{◌≡◌, ◌≢◌, ℕ, true, slice_get, Some, sym, ap, ◌∙◌, subst, arith, eqb-true}
use Rattle.std.proofs.lemmas.Bool.{false≢true}
use Rattle.std.proofs.lemmas.Option.{same_Some}
use Rattle.plain_monitor.specs.declared.entry.Entry.TheVariants.{Enter}
use Rattle.plain_monitor.specs.declared.entry.Path.{Path}
use Rattle.plain_monitor.proofs.Lists.{all_at}
use Rattle.plain_machine.specs.declared.monitor_call.MonitorCall.{MonitorCall}
use Rattle.plain_machine.specs.declared.monitor_call.Mode.TheVariants.{Calling}
use Rattle.plain_machine.specs.declared.monitor_call.MonitorCall.TheVariants as call
use Rattle.plain_machine.specs.declared.monitor_call.NextEntry.{NextEntry}
use Rattle.plain_machine.specs.declared.monitor_call.NextEntry.TheVariants.{Calls, Resumes, Leaves, Ends}
use Rattle.plain_monitor.specs.declared.entry.Ending.TheVariants as ending
use Rattle.plain_machine.specs.Asking.{ask, fits}
use Rattle.plain_machine.specs.Thread.{ThreadState}
use Rattle.plain_machine.specs.Machine.{PlainMachine, take}
use Rattle.machine_laws.specs.Reached.{IsReached}
use Rattle.machine_laws.specs.ReachedThread.{IsThreadOf, IsModeOf}
use Rattle.machine_laws.proofs.ReachedAsked.{taken}
use Rattle.every_outcome.specs.Fuel.{refuelled, with_fuel}
use Rattle.every_outcome.proofs.Places.{get_map}
use Rattle.every_outcome.proofs.Refuelled.{holds_told}

pub no_fuel_not : (m : PlainMachine) (t : ℕ) (s : ThreadState) (c : MonitorCall) → slice_get m.threads t ≡ Some s → s.mode ≡ Calling c
    → IsReached (refuelled 0 m) → ⊥
no_fuel_not m t s c at mode h =
    let k = all_at (IsThreadOf m.program) (refuelled 0 m).threads t (with_fuel 0 s) h.threads (get_map (λ s. with_fuel 0 s) m.threads t s at) in
    let paid = (subst (IsModeOf m.program (with_fuel 0 s)) mode k.mode).0 in
    absurd (omega (arith, paid))

pub holds_not : (m n : PlainMachine) (t : ℕ) (s u : ThreadState) → IsReached m → m.program ≡ n.program → m.objects ≡ n.objects
    → slice_get m.threads t ≡ Some s → slice_get n.threads t ≡ Some u → s.holds ≢ u.holds → IsReached n → ⊥
holds_not m n t s u h program objects at at2 apart k = apart (holds_told m n t s u h k program objects at at2)

-- a thread that enters one object asks for no other
fits_one : (a : NextEntry) (o k : ℕ) (p q : Path) → fits a (Enter o p) ≡ true → fits a (Enter k q) ≡ true → o ≡ k
fits_one (Calls (call.Enter c)) o k p q h g = sym (eqb-true c o h) ∙ eqb-true c k g
fits_one (Resumes c) o k p q h g = absurd (false≢true h)
fits_one (Leaves c) o k p q h g = absurd (false≢true h)
fits_one (Ends (ending.Trap f i)) o k p q h g = absurd (false≢true h)
fits_one (Ends ending.Spent) o k p q h g = absurd (false≢true h)
fits_one (Ends ending.Done) o k p q h g = absurd (false≢true h)
fits_one (Calls _) o k p q h g = absurd (false≢true h)

pub other_object : (m a : PlainMachine) (t o k : ℕ) (p q : Path) → o ≢ k → take m t (Enter o p) ≡ Some a → take m t (Enter o p) ≡ take m t (Enter k q) → ⊥
other_object m a t o k p q apart takes same =
    let x = taken m t (Enter o p) a takes in
    let y = taken m t (Enter k q) a (sym same ∙ takes) in
    let state : x.s ≡ y.s = same_Some x.s y.s (sym x.at ∙ y.at) in
    let asks : x.asked ≡ y.asked = same_Some x.asked y.asked (sym x.asks ∙ ap ask state ∙ y.asks) in
    apart (fits_one x.asked o k p q x.fit (subst (λ (z : NextEntry). fits z (Enter k q) ≡ true) (sym asks) y.fit))
