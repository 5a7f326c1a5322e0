use Rattle.std.proofs.Common.{◌≡◌, eq-eqb, eqb-true, length, Ok, refl, sym, ◌∙◌, subst, arith}
use Rattle.core_world.specs.declared.heap_call.Operation.TheVariants as op
use Rattle.core_world.specs.declared.heap_call.HeapCall.TheVariants as task
use Rattle.plain_monitor.specs.declared.entry.Entry.TheVariants as entry
use Rattle.core_calls.specs.CallsSay.{DumpSays}
use Rattle.core_calls.specs.Paths.{Tells}
use Rattle.heap_table.specs.Resting.{start_now}
use Rattle.thread_calls.specs.Asked.{unfinished_on}
use Rattle.thread_calls.proofs.After.{came_dumped, cause_some, progress_done, progress_left}
use Rattle.core_calls.proofs.Called.{called}
use Rattle.core_calls.proofs.NamedCalls.{dump_named}
use Rattle.thread_calls.proofs.runtime_calls.dump.Goals as goal

pub unreachable-requires : goal.unreachable-requires
unreachable-requires c =
    let four = eqb-true (length c.args.pass.now.known.shots) 4 c.in-Err.ensures.says.says.0 in
    absurd (omega (arith, four, c.requires.number, c.requires.room))

pub returns-in-Done-clause-made : goal.returns-in-Done-clause-made
returns-in-Done-clause-made c =
    let a = c.args in
    let h = a.heap.now in
    let k = a.pass.now in
    let q = c.dump.new.pass in
    let e = c.in-Ok.ensures in
    let x = c.in-Done.number in
    let told = subst (λ z. Tells k.known q.known (λ ms. DumpSays (start_now h k) ms (Ok z))) c.in-Done.is e.says in
    let number : a.number ≡ x = c.requires.number ∙ sym told.says.1.0 in
    record {
      logged = entry.Dump x;
      is = progress_done h k q (came_dumped e.rests e.run) (DumpSays (start_now h k)) c.in-Ok.progress (λ z. Ok z)
          e.says e.stands e.run.ran x (entry.Dump x) c.in-Done.is (λ ms z. z.1.1) task.Dump (λ r. (x, r));
      of = record { is = eq-eqb a.number x number; value = tt };
      same = λ f. refl;
    }

pub returns-in-Pending-clause-made : goal.returns-in-Pending-clause-made
returns-in-Pending-clause-made c =
    let a = c.args in
    let h = a.heap.now in
    let k = a.pass.now in
    let e = c.in-Ok.ensures in
    let why = c.in-Pending.why in (
      progress_left h k c.dump.new.pass (came_dumped e.rests e.run) (DumpSays (start_now h k)) c.in-Ok.progress (λ z. Ok z)
          e.says e.stands e.run.ran (unfinished_on op.Dump 0) why c.in-Pending.is (λ ms z. z.1.0)
          (λ ms z. cause_some k.known.thread 0 why ms z.1.1.0.cause) task.Dump (λ r. r),
      refl,
    )

pub returns-in-Done-clause-called : goal.returns-in-Done-clause-called
returns-in-Done-clause-called c =
    called (dump_named c.args.heap.now.heap.shape (start_now c.args.heap.now c.args.pass.now)) c.in-Ok.ensures.run.ran

pub returns-in-Pending-clause-called : goal.returns-in-Pending-clause-called
returns-in-Pending-clause-called c =
    called (dump_named c.args.heap.now.heap.shape (start_now c.args.heap.now c.args.pass.now)) c.in-Ok.ensures.run.ran
