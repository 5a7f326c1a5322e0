use Rattle.std.proofs.Common.{eq-eqb, refl}
use Rattle.std.proofs.lemmas.Bool.{and_from}
use Rattle.core_world.specs.declared.heap_call.HeapCall.TheVariants as task
use Rattle.plain_monitor.specs.declared.entry.Entry.TheVariants as entry
use Rattle.heap_table.specs.Resting.{start_now}
use Rattle.thread_calls.proofs.After.{came, logged, tells_so}
use Rattle.thread_calls.proofs.Values.{value_of}
use Rattle.core_calls.proofs.Called.{called}
use Rattle.core_calls.proofs.NamedCalls.{get_named}
use Rattle.thread_calls.proofs.runtime_calls.get.Goals as goal

pub returns-clause-made : goal.returns-clause-made
returns-clause-made c =
    let a = c.args in
    let h = a.heap.now in
    let e = c.get_held-value.ensures in
    let entry = entry.Get a.object a.slot c.get_held-value.result in
    record {
      logged = entry;
      is = logged h a.pass.now c.get_held-value.new.pass (came e.rests e.run) entry (tells_so e.says (λ ms z. z.1.0)) e.stands
          (task.Get a.object a.slot) (c.get_held-value.result, e.run.ran);
      of = record {
        is = and_from _ _ (eq-eqb a.object a.object refl) (eq-eqb a.slot a.slot refl);
        value = value_of h c.get_held-value.result e.value;
      };
      same = λ f. refl;
    }

pub returns-clause-called : goal.returns-clause-called
returns-clause-called c =
    called (get_named (start_now c.args.heap.now c.args.pass.now) c.args.object c.args.slot) c.get_held-value.ensures.run.ran
