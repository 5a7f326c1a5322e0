use Rattle.std.proofs.Common.{false, refl, sym, ap, ◌∙◌, subst}
use Rattle.core_calls.proofs.Called.{called}
use Rattle.core_calls.proofs.NamedCalls.{finish_named}
use Rattle.core_world.specs.declared.heap_call.HeapCall.TheVariants as task
use Rattle.heap_table.specs.Resting.{start_now}
use Rattle.core_world.specs.declared.answer.Progress.TheVariants.{Done}
use Rattle.plain_monitor.specs.Endings.{ending_entry}
use Rattle.plain_machine.specs.declared.monitor_call.NextEntry.TheVariants.{Ends}
use Rattle.machine_laws.proofs.ReachedAsked.{asked_of}
use Rattle.thread_frame.specs.Frames.{frame_after}
use Rattle.thread_calls.specs.Advances.{HasAdvanced}
use Rattle.thread_calls.specs.Asked.{unfinished_of}
use Rattle.thread_calls.specs.Between.{state_by}
use Rattle.thread_calls.proofs.Advanced.{asks_end, end_done}
use Rattle.thread_calls.proofs.After.{came, logged}
use Rattle.thread_calls.proofs.May.{may_finish, thread_is}
use Rattle.thread_calls.proofs.OnTime.{timed_still}
use Rattle.thread_calls.proofs.waiting_and_unwinding.unwind.Goals as goal

pub finish-requires : goal.finish-requires
finish-requires g c =
    let a = c.args in
    let run = a.run.now in
    let r = c.requires in
    let least = sym c.least_held.ensures ∙ c.in-None.is in
    let asks = asks_end run.heap.now run.program.now run.fuel a.pass.now a.frame.now r.heap r.may a.ending r.at least in
    let s = state_by run.heap.now run.program.now a.pass.now a.frame.now in
    let last = asked_of run.program.now s (Ends a.ending) (thread_is run.heap.now run.program.now run.fuel a.pass.now a.frame.now r.heap r.may) asks in
    may_finish run.heap.now run.program.now run.fuel a.pass.now a.frame.now r.heap r.may (Ends a.ending) asks a.ending (ap unfinished_of asks) last.none

pub returns-in-None-clause-advanced : goal.returns-in-None-clause-advanced
returns-in-None-clause-advanced g c =
    let a = c.args in
    let run = a.run.now in
    let r = c.requires in
    let h = run.heap.now in
    let k = a.pass.now in
    let q = c.finish.new.pass in
    let e = c.finish.ensures in
    let least = sym c.least_held.ensures ∙ c.in-None.is in
    let moved = c.follow.ensures ∙ ap (λ x. frame_after a.frame.now (Ends a.ending) x) c.ending_entry.ensures in
    let one = logged h k q (came e.rests e.run) (ending_entry a.ending) e.says e.stands (task.Finish a.ending) e.run.ran in
    subst (λ f. HasAdvanced h run.program.now run.fuel k q a.frame.now f (Done false)) (sym moved)
    (end_done h run.program.now run.fuel k a.frame.now r.heap r.may q a.ending r.at least one)

pub returns-in-None-clause-timed : goal.returns-in-None-clause-timed
returns-in-None-clause-timed g c = λ tick.
    let a = c.args in
    let run = a.run.now in
    let k = a.pass.now in
    let q = c.finish.new.pass in
    timed_still tick (task.Finish a.ending) k.known q.known refl (called (finish_named (start_now run.heap.now k) a.ending) c.finish.ensures.run.ran)
