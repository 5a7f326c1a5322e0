-- The examples of machines that stand still: that logs lead to them, and why they do.
use Rattle.std.proofs.Common.{◌≡◌, ℕ, zero, suc, ◌<◌, true, false, List, [], ◌∷◌, Some, refl, sym, ap, ◌∙◌, arith}
use Rattle.machine_laws.specs.Reached.{IsReached}
use Rattle.object_program.specs.Valid.{IsProgram, IsThread}
use Rattle.plain_machine.specs.Legal.{machine_after}
use Rattle.plain_machine.specs.Machine.{PlainMachine, is_stuck}
use Rattle.plain_machine.specs.Running.{run_on}
use Rattle.plain_machine.specs.declared.monitor_call.MonitorCall.TheVariants as call
use Rattle.plain_machine.specs.declared.monitor_call.Mode.TheVariants.{Calling}
use Rattle.plain_monitor.specs.Monitor.{free_monitor}
use Rattle.plain_monitor.specs.declared.entry.Entry.TheVariants.{Enter}
use Rattle.plain_monitor.specs.declared.entry.Path.TheVariants.{StackFirst}
use Rattle.plain_monitor.specs.declared.entry.Value.TheVariants.{Ref}
use Rattle.std.proofs.lemmas.Option.{same_Some}
use Rattle.wait_report.specs.declared.cycles.Cycle.{Cycle}
use Rattle.wait_report.specs.declared.cycles.Link.{Link}
use Rattle.wait_report.specs.Cycles.{AreCycles, IsCycle, IsCycleOf, next_thread}
use Rattle.wait_report.specs.StuckExamples.{circle_end, circle_logs, circle_program, entering_end, entering_thread, stuck_fuel}
use Rattle.wait_report.specs.StuckExamples.{waiting_by, waiting_end, waiting_logs, waiting_program, with_monitor}
use Rattle.wait_report.specs.Waiting.{WaitsFor, WaitsUnnotified}
use Rattle.wait_report.proofs.Stuck.{logs_are_reached}

-- WAITING
pub waiting_is_program : IsProgram waiting_program
waiting_is_program =
    record {
      class_names = (refl, refl, tt);
      class_slots = (omega arith, tt);
      classes_few = omega arith;
      object_names = (refl, refl, tt);
      objects = ((omega arith, refl, omega arith, λ h. refl), tt);
      objects_few = omega arith;
      thread_names = (refl, refl, tt);
      threads = (
        record {
          locals = (refl, refl, tt);
          locals_few = omega arith;
          labels = tt;
          targets = tt;
          code = ((omega arith, omega arith), (omega arith, (omega arith, (omega arith, (tt, tt)))));
          code_few = omega arith;
          ends = ((λ h. cc), ((λ h. cc), ((λ h. cc), ((λ h. cc), refl))));
        },
        tt,
      );
      threads_some = omega arith;
      threads_few = omega arith;
    }

pub under_waiting : machine_after waiting_program stuck_fuel waiting_logs ≡ Some waiting_end
unfolding run_on
under_waiting = refl

-- the thread asks for nothing
asks_nothing : (u w o : ℕ) → WaitsFor waiting_end u w o → ⊥
asks_nothing zero w o waits = let asks = waits.asks in cc
asks_nothing (suc u) w o waits = let asks = waits.asks in cc

no_circle : (links : List Link) → IsCycleOf waiting_end links → ⊥
no_circle [] is = is
no_circle (x ∷ xs) is = asks_nothing x.thread (next_thread x.thread xs) x.object is.linked.0

pub no_cycle : (c : Cycle) → IsCycle waiting_end c → ⊥
no_cycle c is = no_circle c.links is

pub waiting_stuck : IsReached waiting_end × (is_stuck waiting_end ≡ true) × AreCycles waiting_end []
waiting_stuck = (
  logs_are_reached waiting_program stuck_fuel waiting_logs waiting_end waiting_is_program under_waiting,
  refl,
  record { each = tt; all = λ c is. absurd (no_cycle c is); rising = tt },
)

-- the monitor has to list it
pub forgotten : IsReached (waiting_by free_monitor) → ⊥
forgotten reached =
    let listed : 0 ≡ 1 = (reached.standing 0 (with_monitor free_monitor) refl 0 _ refl).listed in omega (arith, listed)

-- A CIRCLE
entering : (letter first second : ℕ) → first < 2 → second < 2 → IsThread 1 2 (entering_thread letter first second)
entering letter first second f s =
    record {
      locals = (refl, refl, (refl, refl, tt));
      locals_few = omega arith;
      labels = tt;
      targets = tt;
      code = ((omega arith, f), ((omega arith, s), (omega arith, (omega arith, (tt, tt)))));
      code_few = omega arith;
      ends = ((λ h. cc), ((λ h. cc), ((λ h. cc), ((λ h. cc), refl))));
    }

pub circle_is_program : IsProgram circle_program
circle_is_program =
    record {
      class_names = (refl, refl, tt);
      class_slots = (omega arith, tt);
      classes_few = omega arith;
      object_names = (refl, refl, (refl, refl, tt));
      objects = ((omega arith, refl, omega arith, λ h. refl), ((omega arith, refl, omega arith, λ h. refl), tt));
      objects_few = omega arith;
      thread_names = (refl, refl, (refl, refl, tt));
      threads = (entering 116 0 1 (omega arith) (omega arith), (entering 117 1 0 (omega arith) (omega arith), tt));
      threads_some = omega arith;
      threads_few = omega arith;
    }

pub under_circle : machine_after circle_program stuck_fuel circle_logs ≡ Some circle_end
unfolding run_on
under_circle = refl

pub none_waits : (t o : ℕ) → WaitsUnnotified circle_end t o → ⊥
none_waits t zero w = let waits = w.waits in cc
none_waits t (suc zero) w = let waits = w.waits in cc
none_waits t (suc (suc o)) w = let waits = w.waits in cc

pub circle_stuck : IsReached circle_end × (is_stuck circle_end ≡ true) × ((t o : ℕ) → WaitsUnnotified circle_end t o → ⊥)
circle_stuck = (logs_are_reached circle_program stuck_fuel circle_logs circle_end circle_is_program under_circle, refl, none_waits)

-- before the second thread has entered its object
abbrev half : PlainMachine
half =
    record {
      program = circle_program;
      objects =
          with_monitor (record { owner = Some 0; count = 1; waits = []; called = [] }) ∷ with_monitor free_monitor ∷ [];
      made = [] ∷ [] ∷ [];
      threads =
          entering_end 0 1 (1 ∷ 0 ∷ [])
          ∷ record {
            place = 2;
            locals = Ref 1 ∷ Ref 0 ∷ [];
            fuel = 8;
            holds = 0 ∷ 0 ∷ [];
            dumps = 0;
            made = 0;
            mode = Calling (call.Enter 1);
          } ∷ [];
    }

under_half : machine_after circle_program stuck_fuel ((record { stamp = 1; entry = Enter 0 StackFirst } ∷ []) ∷ [] ∷ []) ≡ Some half
unfolding run_on
under_half = refl

pub goes_on : (m : PlainMachine)
    → machine_after circle_program stuck_fuel ((record { stamp = 1; entry = Enter 0 StackFirst } ∷ []) ∷ [] ∷ []) ≡ Some m
    → is_stuck m ≡ true → ⊥
goes_on m after stuck =
    let is = same_Some half m (sym under_half ∙ after) in
    let stuck_too : false ≡ true = ap is_stuck is ∙ stuck in
    cc
