use Rattle.std.proofs.Common.{refl}
use Rattle.core_world.specs.declared.heap_call.HeapCall.TheVariants as task
use Rattle.plain_monitor.specs.declared.entry.Entry.TheVariants as entry
use Rattle.machine_laws.proofs.ReachedStanding.{same_itself}
use Rattle.heap_table.specs.Resting.{start_now}
use Rattle.thread_calls.proofs.After.{came, logged}
use Rattle.core_calls.proofs.Called.{called}
use Rattle.core_calls.proofs.NamedCalls.{print_named}
use Rattle.thread_calls.proofs.runtime_calls.print.Goals as goal

pub returns-clause-made : goal.returns-clause-made
returns-clause-made c =
    let a = c.args in
    let e = c.print.ensures in
    let entry = entry.Print a.value in
    record {
      logged = entry;
      is = logged a.heap.now a.pass.now c.print.new.pass (came e.rests e.run) entry e.says e.stands (task.Print a.value) e.run.ran;
      of = record { is = same_itself a.value; value = tt };
      same = λ f. refl;
    }

pub returns-clause-called : goal.returns-clause-called
returns-clause-called c =
    called (print_named (start_now c.args.heap.now c.args.pass.now) c.args.value) c.print.ensures.run.ran
