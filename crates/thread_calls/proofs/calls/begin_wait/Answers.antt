use Rattle.std.proofs.Common.{eq-eqb, true, refl, sym, ap, ◌∙◌, subst, arith}
use Rattle.core_world.specs.declared.answer.Progress.TheVariants.{Done, Pending}
use Rattle.core_calls.proofs.Called.{called}
use Rattle.core_calls.proofs.NamedCalls.{wait_named}
use Rattle.core_world.specs.declared.heap_call.HeapCall.TheVariants as task
use Rattle.heap_table.specs.Resting.{start_now}
use Rattle.plain_monitor.specs.declared.entry.Entry.TheVariants as entry
use Rattle.plain_machine.specs.declared.monitor_call.NextEntry.TheVariants.{Calls, Resumes}
use Rattle.plain_machine.specs.declared.monitor_call.MonitorCall.TheVariants as call
use Rattle.machine_laws.proofs.ReachedAsked.{asked_of}
use Rattle.thread_frame.specs.Frames.{before_call, frame_after}
use Rattle.thread_calls.specs.Advances.{HasAdvanced}
use Rattle.thread_calls.specs.Between.{state_by}
use Rattle.thread_calls.proofs.Advanced.{asks_call}
use Rattle.thread_calls.proofs.After.{came}
use Rattle.thread_calls.proofs.May.{may_wait, held_is, thread_is}
use Rattle.thread_calls.proofs.OnTime.{timed_at}
use Rattle.thread_calls.proofs.Waited.{wait_done, wait_left, wait_let_go}
use Rattle.thread_calls.proofs.calls.begin_wait.Goals as goal

pub wait-requires : goal.wait-requires
wait-requires g c =
    let a = c.args in
    let run = a.run.now in
    let r = c.requires in
    let w = call.Wait a.object in
    let f = before_call a.frame.now w in
    let asks = asks_call run.heap.now run.program.now run.fuel a.pass.now f r.heap r.may w refl in
    let s = state_by run.heap.now run.program.now a.pass.now f in
    let paid = asked_of run.program.now s (Calls w) (thread_is run.heap.now run.program.now run.fuel a.pass.now f r.heap r.may) asks in
    may_wait run.heap.now run.program.now run.fuel a.pass.now f r.heap r.may (Calls w) (entry.Wait a.object) a.object c.time_now.result asks
    (eq-eqb a.object a.object refl) refl refl paid.call.0

pub unreachable-requires : goal.unreachable-requires
unreachable-requires g c =
    let a = c.args in
    let run = a.run.now in
    let r = c.requires in
    let w = call.Wait a.object in
    let f = before_call a.frame.now w in
    let asks = asks_call run.heap.now run.program.now run.fuel a.pass.now f r.heap r.may w refl in
    let s = state_by run.heap.now run.program.now a.pass.now f in
    let paid = asked_of run.program.now s (Calls w) (thread_is run.heap.now run.program.now run.fuel a.pass.now f r.heap r.may) asks in
    let one = held_is run.heap.now run.program.now run.fuel a.pass.now f r.heap r.may a.object paid.call in
    absurd (omega (arith, one, c.in-Err.ensures.owner))

pub returns-in-Done-clause-advanced : goal.returns-in-Done-clause-advanced
returns-in-Done-clause-advanced g c =
    let a = c.args in
    let run = a.run.now in
    let r = c.requires in
    let f = before_call a.frame.now (call.Wait a.object) in
    let q = c.wait.new.pass in
    let e = c.in-Ok.ensures in
    let moved = c.follow-in-Done.ensures ∙ ap (λ x. frame_after x (Resumes a.object) (entry.Resume a.object)) c.follow.ensures in
    subst (λ x. HasAdvanced run.heap.now run.program.now run.fuel a.pass.now q f x (Done true)) (sym moved)
    (wait_done run.heap.now run.program.now run.fuel a.pass.now f r.heap r.may a.object c.time_now.result q (came e.rests e.run) c.in-Ok.progress
    e.says e.stands e.run.ran c.in-Done.field-0 refl c.in-Done.is)

pub returns-then-has_let_go-clause-advanced : goal.returns-then-has_let_go-clause-advanced
returns-then-has_let_go-clause-advanced g c =
    let a = c.args in
    let run = a.run.now in
    let r = c.requires in
    let f = before_call a.frame.now (call.Wait a.object) in
    let q = c.wait.new.pass in
    let e = c.in-Ok.ensures in
    subst (λ x. HasAdvanced run.heap.now run.program.now run.fuel a.pass.now q f x (Pending c.in-Pending.why)) (sym c.follow-then-has_let_go.ensures)
    (wait_let_go run.heap.now run.program.now run.fuel a.pass.now f r.heap r.may a.object c.time_now.result q (came e.rests e.run) c.in-Ok.progress
    e.says e.stands e.run.ran c.in-Pending.why refl c.in-Pending.is (sym c.has_let_go.ensures ∙ c.if-has_let_go.true))

pub returns-else-has_let_go-clause-advanced : goal.returns-else-has_let_go-clause-advanced
returns-else-has_let_go-clause-advanced g c =
    let a = c.args in
    let run = a.run.now in
    let r = c.requires in
    let f = before_call a.frame.now (call.Wait a.object) in
    let q = c.wait.new.pass in
    let e = c.in-Ok.ensures in
    subst (λ x. HasAdvanced run.heap.now run.program.now run.fuel a.pass.now q f x (Pending c.in-Pending.why)) (sym c.stand_before.ensures)
    (wait_left run.heap.now run.program.now run.fuel a.pass.now f r.heap r.may a.object c.time_now.result q (came e.rests e.run) c.in-Ok.progress
    e.says e.stands e.run.ran c.in-Pending.why refl c.in-Pending.is (sym c.has_let_go.ensures ∙ c.if-has_let_go.false))

pub returns-in-Done-clause-timed : goal.returns-in-Done-clause-timed
returns-in-Done-clause-timed g c =
    let run = c.args.run.now in
    timed_at run.tick (task.Wait c.args.object c.time_now.result) _ _ c.time_now.result refl c.time_now.ensures
    (called (wait_named run.heap.now.heap.shape (start_now run.heap.now c.args.pass.now) c.args.object c.time_now.result) c.in-Ok.ensures.run.ran)

pub returns-then-has_let_go-clause-timed : goal.returns-then-has_let_go-clause-timed
returns-then-has_let_go-clause-timed g c =
    let run = c.args.run.now in
    timed_at run.tick (task.Wait c.args.object c.time_now.result) _ _ c.time_now.result refl c.time_now.ensures
    (called (wait_named run.heap.now.heap.shape (start_now run.heap.now c.args.pass.now) c.args.object c.time_now.result) c.in-Ok.ensures.run.ran)

pub returns-else-has_let_go-clause-timed : goal.returns-else-has_let_go-clause-timed
returns-else-has_let_go-clause-timed g c =
    let run = c.args.run.now in
    timed_at run.tick (task.Wait c.args.object c.time_now.result) _ _ c.time_now.result refl c.time_now.ensures
    (called (wait_named run.heap.now.heap.shape (start_now run.heap.now c.args.pass.now) c.args.object c.time_now.result) c.in-Ok.ensures.run.ran)
