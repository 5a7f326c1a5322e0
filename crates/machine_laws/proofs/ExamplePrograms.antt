-- Why the example programs are programs.
use Rattle.std.proofs.Common.{ℕ, ◌≤◌, List, [], length, map, refl, arith, rules, lit<}
use Rattle.std.specs.List.{AllByRecursion}
use Rattle.object_program.specs.Limits.{most_threads, most_code}
use Rattle.object_program.specs.declared.program.Code.{Code}
use Rattle.object_program.specs.declared.program.ThreadDef.{ThreadDef}
use Rattle.object_program.specs.Valid.{IsProgram, IsThread, IsInstruction, EndsOnce, AreNames}
use Rattle.machine_laws.specs.Examples.{thread, with_object, printers, waiter, askers}

thread_is : (name : List ℕ) (code : List Code) → AllByRecursion (IsInstruction 1 1 1 []) code → length code ≤ most_code → EndsOnce code
    → IsThread 1 1 (thread name code)
thread_is name code instructions few ends = record {
  locals = search;
  locals_few = omega arith;
  labels = search;
  targets = search arith;
  code = instructions;
  code_few = few;
  ends = ends;
}

program_is : (threads : List ThreadDef) → AreNames (map (λ t. t.name) threads) → AllByRecursion (IsThread 1 1) threads → 1 ≤ length threads
    → length threads ≤ most_threads → IsProgram (with_object threads)
program_is threads names each some few = record {
  class_names = search;
  class_slots = (omega arith, tt);
  classes_few = omega arith;
  object_names = search;
  objects = ((omega arith, refl, omega arith, λ e. refl), tt);
  objects_few = omega arith;
  thread_names = names;
  threads = each;
  threads_some = some;
  threads_few = few;
}

pub printers_is : IsProgram printers
printers_is =
    program_is _ (search)
    (thread_is _ _ (search (arith, lit<)) (omega arith) (search rules), (thread_is _ _ (search (arith, lit<)) (omega arith) (search rules), tt))
    (omega arith) (omega arith)

pub waiter_is : IsProgram waiter
waiter_is = program_is _ (search) (thread_is _ _ (search (arith, lit<)) (omega arith) (search rules), tt) (omega arith) (omega arith)

pub askers_is : IsProgram askers
askers_is =
    program_is _ (search) (
      thread_is _ _ (search (arith, lit<)) (omega arith) (search rules),
      (thread_is _ _ (search (arith, lit<)) (omega arith) (search rules), (thread_is _ _ (search (arith, lit<)) (omega arith) (search rules), tt)),
    )
    (omega arith) (omega arith)
