use Rattle.std.proofs.Common.{eq-eqb, Ok, refl}
use Rattle.core_world.specs.declared.heap_call.Operation.TheVariants as op
use Rattle.core_world.specs.declared.heap_call.HeapCall.TheVariants as task
use Rattle.plain_monitor.specs.declared.entry.Entry.TheVariants as entry
use Rattle.core_calls.specs.CallsSay.{ExitSays}
use Rattle.heap_table.specs.Resting.{start_now}
use Rattle.thread_calls.specs.Asked.{unfinished_on}
use Rattle.thread_calls.proofs.After.{came, cause_some, progress_done, progress_left}
use Rattle.core_calls.proofs.Called.{called}
use Rattle.core_calls.proofs.NamedCalls.{exit_named}
use Rattle.thread_calls.proofs.runtime_calls.exit.Goals as goal

pub returns-in-Done-clause-made : goal.returns-in-Done-clause-made
returns-in-Done-clause-made c =
    let a = c.args in
    let h = a.heap.now in
    let k = a.pass.now in
    let e = c.exit_held.ensures in
    let entry = entry.Exit a.object in
    record {
      logged = entry;
      is = progress_done h k c.exit_held.new.pass (came e.rests e.run) (ExitSays (start_now h k) a.object) c.exit_held.result (λ z. Ok z)
          e.says e.stands e.run.ran c.in-Done.field-0 entry c.in-Done.is (λ ms z. z.1) (task.Exit a.object) (λ r. r);
      of = record { is = eq-eqb _ _ refl; value = tt };
      same = λ f. refl;
    }

pub returns-in-Pending-clause-made : goal.returns-in-Pending-clause-made
returns-in-Pending-clause-made c =
    let a = c.args in
    let h = a.heap.now in
    let k = a.pass.now in
    let e = c.exit_held.ensures in
    let why = c.in-Pending.why in (
      progress_left h k c.exit_held.new.pass (came e.rests e.run) (ExitSays (start_now h k) a.object) c.exit_held.result (λ z. Ok z)
          e.says e.stands e.run.ran (unfinished_on op.Exit a.object) why c.in-Pending.is (λ ms z. z.1.0)
          (λ ms z. cause_some k.known.thread a.object why ms z.1.1.cause) (task.Exit a.object) (λ r. r),
      refl,
    )

pub returns-in-Done-clause-called : goal.returns-in-Done-clause-called
returns-in-Done-clause-called c =
    called (exit_named (start_now c.args.heap.now c.args.pass.now) c.args.object) c.exit_held.ensures.run.ran

pub returns-in-Pending-clause-called : goal.returns-in-Pending-clause-called
returns-in-Pending-clause-called c =
    called (exit_named (start_now c.args.heap.now c.args.pass.now) c.args.object) c.exit_held.ensures.run.ran
