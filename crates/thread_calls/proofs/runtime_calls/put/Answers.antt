use Rattle.std.proofs.Common.{eq-eqb, refl}
use Rattle.std.proofs.lemmas.Bool.{and_from}
use Rattle.core_world.specs.declared.heap_call.HeapCall.TheVariants as task
use Rattle.plain_monitor.specs.declared.entry.Entry.TheVariants as entry
use Rattle.machine_laws.proofs.ReachedStanding.{same_itself}
use Rattle.heap_table.specs.Resting.{start_now}
use Rattle.thread_calls.proofs.After.{came, logged, tells_so}
use Rattle.core_calls.proofs.Called.{called}
use Rattle.core_calls.proofs.NamedCalls.{put_named}
use Rattle.thread_calls.proofs.runtime_calls.put.Goals as goal

pub returns-clause-made : goal.returns-clause-made
returns-clause-made c =
    let a = c.args in
    let e = c.put_held.ensures in
    let entry = entry.Put a.object a.slot a.value in
    record {
      logged = entry;
      is = logged a.heap.now a.pass.now c.put_held.new.pass (came e.rests e.run) entry (tells_so e.says (λ ms z. z.1.0)) e.stands
          (task.Put a.object a.slot a.value) e.run.ran;
      of = record { is = and_from _ _ (and_from _ _ (eq-eqb a.object a.object refl) (eq-eqb a.slot a.slot refl)) (same_itself a.value); value = tt };
      same = λ f. refl;
    }

pub returns-clause-called : goal.returns-clause-called
returns-clause-called c =
    called (put_named (start_now c.args.heap.now c.args.pass.now) c.args.object c.args.slot c.args.value) c.put_held.ensures.run.ran
