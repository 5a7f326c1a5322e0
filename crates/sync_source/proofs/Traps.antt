-- A trap that the plain machine takes is the one by which its thread was about to end, and the thread has ended by it then.
use Rattle.std.proofs.Common.{◌≡◌, ℕ, ◌==◌, true, false, slice_get, slice_set, Option, Some, None, refl, sym, ap, ◌∙◌}
use Rattle.std.proofs.lemmas.Bool.{eqb-true, false≢true, and_parts}
use Rattle.std.proofs.lemmas.Option.{none-some}
use Rattle.plain_monitor.proofs.Lists.{get_set_same}
use Rattle.plain_monitor.specs.declared.entry.Fault.{Fault}
use Rattle.plain_monitor.specs.declared.entry.Ending.{Ending}
use Rattle.plain_monitor.specs.declared.entry.Ending.TheVariants as ending
use Rattle.plain_monitor.specs.declared.entry.Entry.TheVariants.{Trap}
use Rattle.plain_machine.specs.declared.monitor_call.MonitorCall.{MonitorCall}
use Rattle.plain_machine.specs.declared.monitor_call.MonitorCall.TheVariants as call
use Rattle.plain_machine.specs.declared.monitor_call.Mode.{Mode}
use Rattle.plain_machine.specs.declared.monitor_call.Mode.TheVariants.{Calling, Waiting, Unwinding, Ended}
use Rattle.plain_machine.specs.declared.monitor_call.NextEntry.{NextEntry}
use Rattle.plain_machine.specs.declared.monitor_call.NextEntry.TheVariants.{Calls, Ends}
use Rattle.plain_machine.specs.Thread.{ThreadState}
use Rattle.plain_machine.specs.Asking.{held_from, unwinds, ask_in, is_call, fits, fault_number, after_entry}
use Rattle.plain_machine.specs.Machine.{PlainMachine, code_of, take}
use Rattle.machine_laws.proofs.ReachedAsked.{taken}

-- the machine has taken a trap of thread t with index j
pub record IsTrapped (m : PlainMachine) (t j : ℕ) (next : PlainMachine) : Type 0 where
  pub s : ThreadState
  pub fault : Fault
  pub at : slice_get m.threads t ≡ Some s
  pub mode : s.mode ≡ Unwinding (ending.Trap fault j)
  pub after : slice_get next.threads t ≡ Some (record s { mode = Ended (ending.Trap fault j) })

no_call : (c : MonitorCall) (f : Fault) (j : ℕ) → is_call c (Trap f j) ≡ false
no_call (call.Enter o) f j = refl
no_call _ f j = refl

-- what a trap fits
ends_by : (a : NextEntry) (f : Fault) (j : ℕ) → fits a (Trap f j) ≡ true → (g : Fault) × (a ≡ Ends (ending.Trap g j))
ends_by (Calls c) f j h = absurd (false≢true (sym (no_call c f j) ∙ h))
ends_by (Ends (ending.Trap g i)) f j h =
    (g, ap (λ k. Ends (ending.Trap g k)) (eqb-true i j (and_parts (fault_number g == fault_number f) (i == j) h).1))
ends_by _ f j h = absurd (false≢true h)

-- who asks for an end unwinds by it
unwinds_by : (g e : Ending) (held : Option ℕ) → ◌≡◌ {A = Option NextEntry} (Some (unwinds g held)) (Some (Ends e)) → g ≡ e
unwinds_by g e None h = cc
unwinds_by g e (Some o) h = cc

mode_of : (s : ThreadState) (mode : Mode) (e : Ending) → ask_in s mode ≡ Some (Ends e) → mode ≡ Unwinding e
mode_of s (Calling c) e h = cc
mode_of s (Waiting o) e h = cc
mode_of s (Unwinding g) e h = ap (λ x. Unwinding x) (unwinds_by g e (held_from 0 s.holds) h)
mode_of s (Ended g) e h = absurd (none-some (Ends e) h)

pub trapped : (m next : PlainMachine) (t : ℕ) (f : Fault) (j : ℕ) → take m t (Trap f j) ≡ Some next → IsTrapped m t j next
trapped m next t f j h =
    let k = taken m t (Trap f j) next h in
    let e = ends_by k.asked f j k.fit in
    record {
      s = k.s;
      fault = e.0;
      at = k.at;
      mode = mode_of k.s (k.s).mode (ending.Trap e.0 j) (k.asks ∙ ap (λ a. Some a) e.1);
      after = ap (λ (n : PlainMachine). slice_get n.threads t) (sym k.is)
          ∙ ap (λ a. slice_get (slice_set m.threads t (after_entry m.program (code_of m.program t) k.s a (Trap f j))) t) e.1
          ∙ get_set_same m.threads t k.s _ k.at;
    }
