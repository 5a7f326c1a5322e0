use Rattle.std.proofs.Common.{sym, ap, ◌∙◌}
use Rattle.core_world.specs.Threads.ThreadView.{local_of}
use Rattle.core_world.specs.Trees.WaitSteps.{waiters, by_age, notify_first, monitor_notify_steps}
use Rattle.core_world.specs.Words.Shape.{Shape}
use Rattle.heap_table.proofs.Aside.{room_aside}
use Rattle.object_monitor.specs.inner.NotifyParts.{first_of, notify_one}
use Rattle.heap_table.proofs.StepsLeft.{AreLeft, all_left, left_as, part_of}
use Rattle.object_monitor.proofs.Looking.{looks_aside, look_left}
use Rattle.object_monitor.proofs.Waking.{first_notified, waiting}
use Rattle.object_monitor.proofs.notifies.monitor_notify.Goals as goal
use Rattle.object_monitor.proofs.notifies.monitor_notify.Goals.{After-oldest-waiter}

pub look-words-requires-clause-due : goal.look-words-requires-clause-due
look-words-requires-clause-due c =
    part_of (λ words. notify_first (by_age (waiters c.args.object 0 words)) c.args.call.now (local_of c.args.pass.now.known) c.args.object)
    (all_left c.requires.heap c.requires.due)

-- the words are looked at, and the oldest waiter is found
looked : (c : After-oldest-waiter) → AreLeft c.args.heap.now c.args.call.now.task c.args.pass.now
    (monitor_notify_steps c.args.call.now (local_of c.args.pass.now.known) c.args.heap.now.heap.shape.threads c.args.object) c.look-words.new.pass
    (notify_one c.oldest-waiter.result c.args.call.now (local_of c.look-words.new.pass.known) c.args.object)
looked c =
    let h = c.args.heap.now in
    let e = c.args.call.now in
    let o = c.args.object in
    let k = local_of c.args.pass.now.known in
    let n = h.heap.shape.threads in
    let all = c.threads.ensures.same ∙ ap (λ (s : Shape). s.threads) c.shape.ensures in
    let waiter = c.oldest-waiter.ensures ∙ ap (λ m. first_of (waiting o m c.look-words.result)) all in
    let local = (looks_aside h c.args.pass.now c.look-words.new.pass e n _ c.look-words.ensures).local in
    left_as (look_left e n (λ words. notify_first (by_age (waiters o 0 words)) e k o) c.requires.heap.within c.look-words.ensures
    (all_left c.requires.heap c.requires.due))
    (first_notified (waiting o n c.look-words.result) e k o ∙ (λ j. notify_one (sym waiter j) e (sym local j) o))

pub notify_one-requires-clause-due : goal.notify_one-requires-clause-due
notify_one-requires-clause-due c = (looked (goal.at.notify_one-requires-clause-due c).After-oldest-waiter).due

pub notify_one-requires-clause-room : goal.notify_one-requires-clause-room
notify_one-requires-clause-room c = room_aside c.args.pass.now c.look-words.new.pass
    (looks_aside c.args.heap.now c.args.pass.now c.look-words.new.pass c.args.call.now c.args.heap.now.heap.shape.threads _ c.look-words.ensures)
    c.look-words.ensures.limit c.requires.room

pub returns : goal.returns
returns c = (looked (goal.at.returns c).After-oldest-waiter).whole _ _ c.notify_one.ensures
