use Rattle.std.proofs.Common.{eq-eqb, true, refl, sym, subst, arith}
use Rattle.core_world.specs.declared.answer.Progress.TheVariants.{Done}
use Rattle.core_calls.proofs.Called.{called}
use Rattle.core_calls.proofs.NamedCalls.{wait_named}
use Rattle.core_world.specs.declared.heap_call.HeapCall.TheVariants as task
use Rattle.heap_table.specs.Resting.{start_now}
use Rattle.plain_machine.specs.declared.monitor_call.NextEntry.TheVariants.{Resumes}
use Rattle.plain_monitor.specs.declared.entry.Entry.TheVariants as entry
use Rattle.plain_machine.specs.declared.monitor_call.Mode.TheVariants.{Waiting}
use Rattle.machine_laws.proofs.ReachedAsked.{asked_of}
use Rattle.thread_calls.specs.Advances.{HasAdvanced}
use Rattle.thread_calls.specs.Between.{state_by}
use Rattle.thread_calls.proofs.Advanced.{asks_resume, mode_is}
use Rattle.thread_calls.proofs.After.{came}
use Rattle.thread_calls.proofs.Kept.{waits_held}
use Rattle.thread_logs.proofs.Standing.{holds_told}
use Rattle.thread_calls.proofs.May.{may_wait, thread_is}
use Rattle.thread_calls.proofs.OnTime.{timed_at}
use Rattle.thread_calls.proofs.Waited.{resume_done, resume_left}
use Rattle.thread_calls.proofs.waiting_and_unwinding.continue_wait.Goals as goal

pub wait-requires : goal.wait-requires
wait-requires g c =
    let a = c.args in
    let run = a.run.now in
    let r = c.requires in
    let asks = asks_resume run.heap.now run.program.now run.fuel a.pass.now a.frame.now r.heap r.may a.object r.at in
    let s = state_by run.heap.now run.program.now a.pass.now a.frame.now in
    let there = (asked_of run.program.now s (Resumes a.object)
    (thread_is run.heap.now run.program.now run.fuel a.pass.now a.frame.now r.heap r.may) asks).there in
    may_wait run.heap.now run.program.now run.fuel a.pass.now a.frame.now r.heap r.may
    (Resumes a.object) (entry.Resume a.object) a.object c.time_now.result asks
    (eq-eqb a.object a.object refl) refl refl there

pub unreachable-requires : goal.unreachable-requires
unreachable-requires g c =
    let a = c.args in
    let run = a.run.now in
    let r = c.requires in
    let p = run.program.now in
    let k = a.pass.now in
    let on = r.may.on in
    let t = k.known.thread in
    let s = state_by run.heap.now p k a.frame.now in
    let asks = asks_resume run.heap.now p run.fuel k a.frame.now r.heap r.may a.object r.at in
    let there = (asked_of p s (Resumes a.object) (thread_is run.heap.now p run.fuel k a.frame.now r.heap r.may) asks).there in
    let mode = mode_is run.heap.now p run.fuel k a.frame.now r.heap r.may (Waiting a.object) r.at in
    let one = waits_held p t r.heap.program run.fuel a.object k.known.log s on.values on.follows mode in
    let told = holds_told p run.fuel t a.object k.known.log s on.follows there in
    absurd (omega (arith, one, told, c.in-Err.ensures.owner))

pub returns-in-Done-clause-advanced : goal.returns-in-Done-clause-advanced
returns-in-Done-clause-advanced g c =
    let a = c.args in
    let run = a.run.now in
    let r = c.requires in
    let q = c.wait.new.pass in
    let e = c.in-Ok.ensures in
    subst (λ f. HasAdvanced run.heap.now run.program.now run.fuel a.pass.now q a.frame.now f (Done true)) (sym c.follow.ensures)
    (resume_done run.heap.now run.program.now run.fuel a.pass.now a.frame.now r.heap r.may a.object c.time_now.result q (came e.rests e.run) c.in-Ok.progress
    e.says e.stands e.run.ran c.in-Done.field-0 r.at c.in-Done.is)

pub returns-in-Pending-clause-advanced : goal.returns-in-Pending-clause-advanced
returns-in-Pending-clause-advanced g c =
    let a = c.args in
    let run = a.run.now in
    let r = c.requires in
    let q = c.wait.new.pass in
    let e = c.in-Ok.ensures in
    resume_left run.heap.now run.program.now run.fuel a.pass.now a.frame.now r.heap r.may a.object c.time_now.result q (came e.rests e.run) c.in-Ok.progress
    e.says e.stands e.run.ran c.in-Pending.why r.at c.in-Pending.is

pub returns-in-Done-clause-timed : goal.returns-in-Done-clause-timed
returns-in-Done-clause-timed g c =
    let run = c.args.run.now in
    timed_at run.tick (task.Wait c.args.object c.time_now.result) _ _ c.time_now.result refl c.time_now.ensures
    (called (wait_named run.heap.now.heap.shape (start_now run.heap.now c.args.pass.now) c.args.object c.time_now.result) c.in-Ok.ensures.run.ran)

pub returns-in-Pending-clause-timed : goal.returns-in-Pending-clause-timed
returns-in-Pending-clause-timed g c =
    let run = c.args.run.now in
    timed_at run.tick (task.Wait c.args.object c.time_now.result) _ _ c.time_now.result refl c.time_now.ensures
    (called (wait_named run.heap.now.heap.shape (start_now run.heap.now c.args.pass.now) c.args.object c.time_now.result) c.in-Ok.ensures.run.ran)
