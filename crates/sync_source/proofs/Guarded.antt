-- Why the example of two threads is a program with blocks, and what its logs lead to.
use Rattle.std.proofs.Common.{◌≡◌, ℕ, List, decimal, slice_get, Some, refl, arith, lit<}
use Rattle.object_program.specs.declared.program.Code.TheVariants.{Exit}
use Rattle.plain_machine.specs.Legal.{IsLegal, machine_after}
use Rattle.plain_machine.specs.Machine.{PlainMachine, code_of}
use Rattle.plain_machine.specs.Running.{run_on, instruction_at}
use Rattle.plain_machine.specs.Thread.{ThreadState}
use Rattle.plain_monitor.specs.declared.entry.Ending.TheVariants.{Trap, Done}
use Rattle.plain_monitor.specs.declared.entry.Fault.TheVariants.{NotInt}
use Rattle.sync_source.specs.Compiled.{compiled}
use Rattle.sync_source.specs.Endings.{ending_begun}
use Rattle.sync_source.specs.Examples.{thread, printing, adding, guarded, guarded_logs}
use Rattle.sync_source.specs.Valid.{IsSyncText, IsSyncThread}

prints : (name : List ℕ) → IsSyncThread 1 1 (thread name printing)
prints name = record {
  locals = search;
  locals_few = omega arith;
  body = (tt, (omega arith, omega arith), (omega arith, (tt, omega arith, tt), (tt, tt, tt)));
  ends = (refl, ((refl, tt), refl));
  keeps = (tt, (((refl, tt), tt), (tt, tt)));
  nested = omega arith;
  code_few = omega arith;
}

adds : (name : List ℕ) → IsSyncThread 1 1 (thread name adding)
adds name = record {
  locals = search;
  locals_few = omega arith;
  body = (tt, (omega arith, omega arith), (omega arith, (tt, (omega arith, omega arith, omega arith), tt), (tt, tt, tt)));
  ends = (refl, ((refl, tt), refl));
  keeps = (tt, (((refl, tt), tt), (tt, tt)));
  nested = omega arith;
  code_few = omega arith;
}

pub is_text : IsSyncText guarded
is_text = record {
  class_names = search;
  class_slots = (omega arith, tt);
  classes_few = omega arith;
  object_names = search;
  objects = ((omega arith, refl, omega arith, λ e. refl), tt);
  objects_few = omega arith;
  thread_names = search;
  threads = (prints _, (adds _, tt));
  threads_some = omega arith;
  threads_few = omega arith;
}

pub is_legal : IsLegal (compiled decimal guarded) 8 guarded_logs
unfolding run_on
is_legal = record { rises = search (arith, lit<); taken = refl }

pub leads : (m : PlainMachine) × (s u : ThreadState)
    × (machine_after (compiled decimal guarded) 8 guarded_logs ≡ Some m) × (slice_get m.threads 0 ≡ Some s)
    × (ending_begun s.mode ≡ Some Done) × (slice_get m.threads 1 ≡ Some u)
    × (ending_begun u.mode ≡ Some (Trap NotInt 3)) × (instruction_at (code_of m.program 1) 3 ≡ Exit 0)
unfolding run_on
leads = (_, _, _, refl, refl, refl, refl, refl, refl)
