use Rattle.std.proofs.Common.{false, Ok, refl, sym, ap, subst, arith}
use Rattle.core_world.specs.declared.answer.Progress.TheVariants.{Done}
use Rattle.core_world.specs.declared.heap_call.Operation.TheVariants as op
use Rattle.core_world.specs.declared.heap_call.HeapCall.TheVariants as task
use Rattle.plain_monitor.specs.declared.entry.Entry.TheVariants as entry
use Rattle.plain_machine.specs.declared.monitor_call.NextEntry.TheVariants.{Leaves as Left}
use Rattle.plain_machine.specs.declared.monitor_call.Mode.TheVariants.{Unwinding}
use Rattle.machine_laws.proofs.ReachedAsked.{asked_of}
use Rattle.core_calls.proofs.Called.{called}
use Rattle.core_calls.proofs.NamedCalls.{exit_named}
use Rattle.core_calls.specs.CallsSay.{ExitSays}
use Rattle.heap_table.specs.Resting.{start_now}
use Rattle.thread_calls.specs.Advances.{HasAdvanced}
use Rattle.thread_calls.specs.Asked.{unfinished_of, unfinished_on}
use Rattle.thread_calls.specs.Between.{state_by}
use Rattle.thread_calls.proofs.Advanced.{asks_leave, leave_done, still_waits}
use Rattle.thread_calls.proofs.After.{came, cause_some, progress_done, progress_left}
use Rattle.thread_calls.proofs.May.{may_leave, held_is, thread_is}
use Rattle.thread_calls.proofs.OnTime.{timed_still}
use Rattle.thread_calls.proofs.waiting_and_unwinding.leave.Goals as goal

pub exit-requires : goal.exit-requires
exit-requires g c =
    let a = c.args in
    let run = a.run.now in
    let r = c.requires in
    let asks = asks_leave run.heap.now run.program.now run.fuel a.pass.now a.frame.now r.heap r.may a.ending a.object r.at r.least in
    let s = state_by run.heap.now run.program.now a.pass.now a.frame.now in
    let held = (asked_of run.program.now s (Left a.object) (thread_is run.heap.now run.program.now run.fuel a.pass.now a.frame.now r.heap r.may) asks).held in
    may_leave run.heap.now run.program.now run.fuel a.pass.now a.frame.now r.heap r.may a.object asks held.0

pub unreachable-requires : goal.unreachable-requires
unreachable-requires g c =
    let a = c.args in
    let run = a.run.now in
    let r = c.requires in
    let asks = asks_leave run.heap.now run.program.now run.fuel a.pass.now a.frame.now r.heap r.may a.ending a.object r.at r.least in
    let s = state_by run.heap.now run.program.now a.pass.now a.frame.now in
    let held = (asked_of run.program.now s (Left a.object) (thread_is run.heap.now run.program.now run.fuel a.pass.now a.frame.now r.heap r.may) asks).held in
    let one = held_is run.heap.now run.program.now run.fuel a.pass.now a.frame.now r.heap r.may a.object held in
    absurd (omega (arith, one, c.in-Err.ensures.owner))

pub returns-in-Done-clause-advanced : goal.returns-in-Done-clause-advanced
returns-in-Done-clause-advanced g c =
    let a = c.args in
    let run = a.run.now in
    let r = c.requires in
    let h = run.heap.now in
    let k = a.pass.now in
    let q = c.exit.new.pass in
    let e = c.in-Ok.ensures in
    let one = progress_done h k q (came e.rests e.run) (ExitSays (start_now h k) a.object) c.in-Ok.progress (λ z. Ok z) e.says e.stands e.run.ran
    c.in-Done.field-0 (entry.Exit a.object) c.in-Done.is (λ ms z. z.1) (task.Exit a.object) (λ r. r) in
    subst (λ g. HasAdvanced h run.program.now run.fuel k q a.frame.now g (Done false)) (sym c.follow.ensures)
    (leave_done h run.program.now run.fuel k a.frame.now r.heap r.may q a.ending a.object r.at r.least one)

pub returns-in-Pending-clause-advanced : goal.returns-in-Pending-clause-advanced
returns-in-Pending-clause-advanced g c =
    let a = c.args in
    let run = a.run.now in
    let r = c.requires in
    let h = run.heap.now in
    let k = a.pass.now in
    let q = c.exit.new.pass in
    let e = c.in-Ok.ensures in
    let why = c.in-Pending.why in
    let asks = asks_leave h run.program.now run.fuel k a.frame.now r.heap r.may a.ending a.object r.at r.least in
    let one = progress_left h k q (came e.rests e.run) (ExitSays (start_now h k) a.object) c.in-Ok.progress (λ z. Ok z) e.says e.stands e.run.ran
    (unfinished_on op.Exit a.object) why c.in-Pending.is (λ ms z. z.1.0)
    (λ ms z. cause_some k.known.thread a.object why ms z.1.1.cause) (task.Exit a.object) (λ r. r) in
    still_waits h run.program.now run.fuel k a.frame.now r.heap r.may q why (Unwinding a.ending) (unfinished_on op.Exit a.object) r.at one
    (sym (ap unfinished_of asks)) refl

pub returns-in-Done-clause-timed : goal.returns-in-Done-clause-timed
returns-in-Done-clause-timed g c = λ tick.
    timed_still tick (task.Exit c.args.object) _ _ refl
    (called (exit_named (start_now c.args.run.now.heap.now c.args.pass.now) c.args.object) c.in-Ok.ensures.run.ran)

pub returns-in-Pending-clause-timed : goal.returns-in-Pending-clause-timed
returns-in-Pending-clause-timed g c = λ tick.
    timed_still tick (task.Exit c.args.object) _ _ refl
    (called (exit_named (start_now c.args.run.now.heap.now c.args.pass.now) c.args.object) c.in-Ok.ensures.run.ran)
