use Rattle.std.proofs.Common.{eq-eqb, refl, arith}
use Rattle.core_world.specs.declared.answer.Progress.TheVariants.{Pending}
use Rattle.core_world.specs.declared.heap_call.Operation.TheVariants as op
use Rattle.core_world.specs.declared.heap_call.HeapCall.TheVariants as task
use Rattle.plain_monitor.specs.declared.entry.Entry.TheVariants as entry
use Rattle.core_calls.specs.CallsSay.{HashSays}
use Rattle.heap_table.specs.Resting.{start_now}
use Rattle.thread_calls.specs.Asked.{unfinished_on}
use Rattle.thread_calls.proofs.After.{came, cause_some, progress_left, logged, tells_at}
use Rattle.core_calls.proofs.Called.{called}
use Rattle.core_calls.proofs.NamedCalls.{hash_named}
use Rattle.thread_calls.proofs.runtime_calls.hash.Goals as goal

pub returns-in-Done-clause-made : goal.returns-in-Done-clause-made
returns-in-Done-clause-made c =
    let a = c.args in
    let e = c.in-Done.ensures in
    let entry = entry.Hash a.object c.in-Done.value e.says.says.0 in
    record {
      logged = entry;
      is = logged a.heap.now a.pass.now c.hash.new.pass (came e.rests e.run) entry (tells_at e.says e.says.says.2) e.stands
          (task.Hash a.object a.now) (c.in-Done.value, e.run.ran);
      of = record { is = eq-eqb _ _ refl; value = omega arith };
      same = λ f. refl;
    }

pub returns-in-Pending-clause-made : goal.returns-in-Pending-clause-made
returns-in-Pending-clause-made c =
    let a = c.args in
    let h = a.heap.now in
    let k = a.pass.now in
    let e = c.in-Pending.ensures in
    let why = c.in-Pending.why in (
      progress_left h k c.hash.new.pass (came e.rests e.run) (HashSays (start_now h k) a.object) (Pending why) (λ z. z) e.says e.stands e.run.ran
          (unfinished_on op.Hash a.object) why refl (λ ms z. z.0)
          (λ ms z. cause_some k.known.thread a.object why ms z.1.0.cause) (task.Hash a.object a.now) (λ r. r),
      refl,
    )

pub returns-in-Done-clause-called : goal.returns-in-Done-clause-called
returns-in-Done-clause-called c =
    called (hash_named c.args.heap.now.heap.shape (start_now c.args.heap.now c.args.pass.now) c.args.object c.args.now) c.in-Done.ensures.run.ran

pub returns-in-Pending-clause-called : goal.returns-in-Pending-clause-called
returns-in-Pending-clause-called c =
    called (hash_named c.args.heap.now.heap.shape (start_now c.args.heap.now c.args.pass.now) c.args.object c.args.now) c.in-Pending.ensures.run.ran
