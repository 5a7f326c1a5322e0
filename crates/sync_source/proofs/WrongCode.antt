-- Why code that does something else, and programs with blocks that are none, are refused.
use Rattle.std.proofs.Common.{◌≡◌, ◌≤◌, ◌+◌, ℕ, length, true, false, List, [], ◌∷◌, decimal, slice_get, Some, refl, arith, rules, lit<}
use Rattle.object_program.specs.Limits.{most_code}
use Rattle.object_program.specs.Valid.{IsProgram, IsInstruction, EndsOnce}
use Rattle.object_program.specs.declared.program.Code.{Code}
use Rattle.object_program.specs.declared.program.Code.TheVariants.{Exit}
use Rattle.plain_machine.specs.Legal.{IsLegal, machine_after}
use Rattle.plain_machine.specs.Machine.{PlainMachine, code_of}
use Rattle.plain_machine.specs.Running.{run_on, instruction_at}
use Rattle.plain_machine.specs.Thread.{ThreadState, holds_of}
use Rattle.plain_monitor.specs.History.{log_of}
use Rattle.plain_monitor.specs.declared.entry.Ending.TheVariants.{Trap, Done}
use Rattle.plain_monitor.specs.declared.entry.Entry.TheVariants as entry
use Rattle.plain_monitor.specs.declared.entry.Fault.{Fault}
use Rattle.plain_monitor.specs.declared.entry.Fault.TheVariants.{NotRef}
use Rattle.plain_monitor.specs.declared.entry.Logged.{Logged}
use Rattle.std.specs.List.{AllByRecursion}
use Rattle.sync_source.specs.Compiled.{compiled}
use Rattle.sync_source.specs.Endings.{ending_begun}
use Rattle.sync_source.specs.Examples.{one_printer, prints_late, enters_nothing, has_no_end, changes_local, changed_logs}
use Rattle.sync_source.specs.Examples.{of_code, ends_inside, entered, exited, printed, done}
use Rattle.sync_source.specs.SameMeaning.{DoesTheSame}
use Rattle.sync_source.specs.SyncMachine.{IsSyncLegal}
use Rattle.sync_source.specs.SyncThread.{sync_run}
use Rattle.sync_source.specs.Valid.{IsSyncText}

-- OTHER CODE
abbrev late_logs : List (List Logged)
late_logs = (entered 1 ∷ exited 2 ∷ printed 3 ∷ done 4 ∷ []) ∷ []

abbrev unguarded_logs : List (List Logged)
unguarded_logs = (printed 1 ∷ done 2 ∷ []) ∷ []

late_legal : IsLegal prints_late 8 late_logs
unfolding run_on
late_legal = record { rises = search (arith, lit<); taken = refl }

unguarded_legal : IsLegal enters_nothing 8 unguarded_logs
unfolding run_on
unguarded_legal = record { rises = search (arith, lit<); taken = refl }

late_not : IsSyncLegal one_printer 8 late_logs → ⊥
unfolding sync_run
late_not h = let taken : false ≡ true = h.taken in absurd (cc taken)

unguarded_not : IsSyncLegal one_printer 8 unguarded_logs → ⊥
unfolding sync_run
unguarded_not h = let taken : false ≡ true = h.taken in absurd (cc taken)

pub not_late : DoesTheSame one_printer prints_late → ⊥
not_late h = late_not (h.legal_only 8 late_logs late_logs refl late_legal)

pub not_unguarded : DoesTheSame one_printer enters_nothing → ⊥
not_unguarded h = unguarded_not (h.legal_only 8 unguarded_logs unguarded_logs refl unguarded_legal)

-- one thread with the locals x and y, and this code
of_code_is : (instructions : List Code) → AllByRecursion (IsInstruction 1 2 1 []) instructions → length instructions ≤ most_code
    → EndsOnce instructions → IsProgram (of_code instructions)
of_code_is instructions each few once =
    record {
      class_names = search;
      class_slots = (omega arith, tt);
      classes_few = omega arith;
      object_names = search;
      objects = ((omega arith, refl, omega arith, λ e. refl), tt);
      objects_few = omega arith;
      thread_names = search;
      threads = (
        record {
          locals = search;
          locals_few = omega arith;
          labels = search;
          targets = tt;
          code = each;
          code_few = few;
          ends = once;
        },
        tt,
      );
      threads_some = omega arith;
      threads_few = omega arith;
    }

pub are_programs : IsProgram prints_late × IsProgram enters_nothing
are_programs = (
  of_code_is _ (search (arith, lit<)) (omega arith) (search rules),
  of_code_is _ (search (arith, lit<)) (omega arith) (search rules),
)

pub not_endless : IsProgram (compiled decimal has_no_end) → ⊥
not_endless h = absurd (cc (h.threads.0.ends))

-- A CHANGED LOCAL
changed_legal : IsLegal (compiled decimal changes_local) 8 changed_logs
unfolding run_on
changed_legal = record { rises = search (arith, lit<); taken = refl }

pub exit_fault_logged : ((fuel t k place x : ℕ) (l : Logged) (f : Fault)
    → IsLegal (compiled decimal changes_local) fuel changed_logs → slice_get (log_of changed_logs t) k ≡ Some l
    → l.entry ≡ entry.Trap f (place + 1)
    → instruction_at (code_of (compiled decimal changes_local) t) place ≡ Exit x → ⊥) → ⊥
exit_fault_logged none =
    none 8 0 2 3 0 (record { stamp = 3; entry = entry.Trap NotRef 4 }) NotRef changed_legal refl refl refl

pub exit_fault_begun : ((fuel t place x : ℕ) (m : PlainMachine) (s : ThreadState) (f : Fault)
    → machine_after (compiled decimal changes_local) fuel ((entered 1 ∷ []) ∷ []) ≡ Some m
    → slice_get m.threads t ≡ Some s → ending_begun s.mode ≡ Some (Trap f (place + 1))
    → instruction_at (code_of m.program t) place ≡ Exit x → ⊥) → ⊥
unfolding run_on
exit_fault_begun none = none 8 0 3 0 _ _ NotRef refl refl refl refl

pub not_changed : IsSyncText changes_local → ⊥
not_changed h = let kept : true ≡ false = h.threads.0.keeps.1.0.0.0 in absurd (cc kept)

-- AN END INSIDE
pub held_at_end : ((fuel t o : ℕ) (m : PlainMachine) (s : ThreadState)
    → machine_after (compiled decimal ends_inside) fuel ((entered 1 ∷ []) ∷ []) ≡ Some m
    → slice_get m.threads t ≡ Some s → ending_begun s.mode ≡ Some Done → holds_of s o ≡ 0) → ⊥
unfolding run_on
held_at_end none = let one : 1 ≡ 0 = none 8 0 0 _ _ refl refl refl in absurd (omega (arith, one))

pub not_ended_inside : IsSyncText ends_inside → ⊥
not_ended_inside h = let other : true ≡ false = h.threads.0.ends.1.0.0 in absurd (cc other)
