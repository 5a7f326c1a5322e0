use Rattle.std.proofs.Common.{eq-eqb, Ok, refl, arith}
use Rattle.core_world.specs.declared.heap_call.Operation.TheVariants as op
use Rattle.core_world.specs.declared.heap_call.HeapCall.TheVariants as task
use Rattle.plain_monitor.specs.declared.entry.Entry.TheVariants as entry
use Rattle.core_calls.specs.CallsSay.{NotifyAllSays}
use Rattle.heap_table.specs.Resting.{start_now}
use Rattle.thread_calls.specs.Asked.{unfinished_on}
use Rattle.thread_calls.proofs.After.{came, cause_some, progress_done, progress_left}
use Rattle.core_calls.proofs.Called.{called}
use Rattle.core_calls.proofs.NamedCalls.{notify_all_call_named}
use Rattle.thread_calls.proofs.runtime_calls.notify_all.Goals as goal

pub unreachable-requires : goal.unreachable-requires
unreachable-requires c = let none = c.in-Err.ensures.owner in let one = c.requires.holds in absurd (omega (arith, none, one))

pub returns-in-Done-clause-made : goal.returns-in-Done-clause-made
returns-in-Done-clause-made c =
    let a = c.args in
    let h = a.heap.now in
    let k = a.pass.now in
    let e = c.in-Ok.ensures in
    let x = c.in-Done.woken in
    let entry = entry.NotifyAll a.object x in
    record {
      logged = entry;
      is = progress_done h k c.notify_all.new.pass (came e.rests e.run) (NotifyAllSays (start_now h k) a.object) c.in-Ok.progress (λ z. Ok z)
          e.says e.stands e.run.ran x entry c.in-Done.is (λ ms z. z.1) (task.NotifyAll a.object a.now) (λ r. (x, r));
      of = record { is = eq-eqb _ _ refl; value = tt };
      same = λ f. refl;
    }

pub returns-in-Pending-clause-made : goal.returns-in-Pending-clause-made
returns-in-Pending-clause-made c =
    let a = c.args in
    let h = a.heap.now in
    let k = a.pass.now in
    let e = c.in-Ok.ensures in
    let why = c.in-Pending.why in (
      progress_left h k c.notify_all.new.pass (came e.rests e.run) (NotifyAllSays (start_now h k) a.object) c.in-Ok.progress (λ z. Ok z)
          e.says e.stands e.run.ran (unfinished_on op.NotifyAll a.object) why c.in-Pending.is (λ ms z. z.1.0)
          (λ ms z. cause_some k.known.thread a.object why ms z.1.1.0.cause) (task.NotifyAll a.object a.now) (λ r. r),
      refl,
    )

pub returns-in-Done-clause-called : goal.returns-in-Done-clause-called
returns-in-Done-clause-called c =
    called (notify_all_call_named c.args.heap.now.heap.shape (start_now c.args.heap.now c.args.pass.now) c.args.object c.args.now) c.in-Ok.ensures.run.ran

pub returns-in-Pending-clause-called : goal.returns-in-Pending-clause-called
returns-in-Pending-clause-called c =
    called (notify_all_call_named c.args.heap.now.heap.shape (start_now c.args.heap.now c.args.pass.now) c.args.object c.args.now) c.in-Ok.ensures.run.ran
