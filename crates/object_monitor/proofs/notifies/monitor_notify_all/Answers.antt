use Rattle.std.proofs.Common.{◌≡◌, ◌<◌, length, refl, sym, ap, ◌∙◌}
use Rattle.core_world.specs.Threads.ThreadView.{local_of}
use Rattle.core_world.specs.Trees.StepTree.{done}
use Rattle.core_world.specs.Trees.WaitSteps.{waiters, by_age, notify_listed, monitor_notify_all_steps}
use Rattle.core_world.specs.Words.Shape.{Shape}
use Rattle.heap_table.proofs.Aside.{room_aside}
use Rattle.object_monitor.specs.inner.NotifyParts.{first_of}
use Rattle.heap_table.proofs.StepsLeft.{AreLeft, all_left, left_as, part_of, last_made}
use Rattle.object_monitor.proofs.Looking.{looks_aside, look_left}
use Rattle.object_monitor.proofs.Waking.{some_listed, none_listed, waiting}
use Rattle.object_monitor.proofs.notifies.monitor_notify_all.Goals as goal
use Rattle.object_monitor.proofs.notifies.monitor_notify_all.Goals.{After-look-words, After-oldest}

pub look-words-requires-clause-due : goal.look-words-requires-clause-due
look-words-requires-clause-due c =
    part_of (λ words. notify_listed (by_age (waiters c.args.object 0 words)) c.args.call.now (local_of c.args.pass.now.known) c.args.object)
    (all_left c.requires.heap c.requires.due)

-- the words are looked at,
looked : (c : After-look-words) → AreLeft c.args.heap.now c.args.call.now.task c.args.pass.now
    (monitor_notify_all_steps c.args.call.now (local_of c.args.pass.now.known) c.args.heap.now.heap.shape.threads c.args.object) c.look-words.new.pass
    (notify_listed (waiting c.args.object c.args.heap.now.heap.shape.threads c.look-words.result) c.args.call.now (local_of c.look-words.new.pass.known)
    c.args.object)
looked c =
    let h = c.args.heap.now in
    let e = c.args.call.now in
    let o = c.args.object in
    let n = h.heap.shape.threads in
    let local = (looks_aside h c.args.pass.now c.look-words.new.pass e n _ c.look-words.ensures).local in
    left_as (look_left e n (λ words. notify_listed (by_age (waiters o 0 words)) e (local_of c.args.pass.now.known) o) c.requires.heap.within
    c.look-words.ensures (all_left c.requires.heap c.requires.due))
    (λ i. notify_listed (waiting o n c.look-words.result) e (sym local i) o)

-- and the first waiter is found
first_is : (c : After-oldest) → c.oldest.result ≡ first_of (waiting c.args.object c.args.heap.now.heap.shape.threads c.look-words.result)
first_is c = c.oldest.ensures
    ∙ ap (λ m. first_of (waiting c.args.object m c.look-words.result)) (c.threads.ensures.same ∙ ap (λ (s : Shape). s.threads) c.shape.ensures)

room : (c : After-look-words) → length c.look-words.new.pass.known.log < c.look-words.new.pass.limit
room c = room_aside c.args.pass.now c.look-words.new.pass
    (looks_aside c.args.heap.now c.args.pass.now c.look-words.new.pass c.args.call.now c.args.heap.now.heap.shape.threads _ c.look-words.ensures)
    c.look-words.ensures.limit c.requires.room

pub notify_those-requires-clause-due : goal.notify_those-requires-clause-due
notify_those-requires-clause-due c =
    let z = goal.at.notify_those-requires-clause-due c in
    (left_as (looked z.After-look-words) (some_listed _ _ _ _ _ (sym (first_is z.After-oldest) ∙ c.in-Some.is))).due

pub notify_those-requires-clause-room : goal.notify_those-requires-clause-room
notify_those-requires-clause-room c = room (goal.at.notify_those-requires-clause-room c).After-look-words

pub publish-requires-clause-room : goal.publish-requires-clause-room
publish-requires-clause-room c = room (goal.at.publish-requires-clause-room c).After-look-words

pub publish-requires-clause-due : goal.publish-requires-clause-due
publish-requires-clause-due c =
    let z = goal.at.publish-requires-clause-due c in
    part_of (λ _. done 0) (left_as (looked z.After-look-words) (none_listed _ _ _ _ (sym (first_is z.After-oldest) ∙ c.in-None.is)))

pub returns-in-Some : goal.returns-in-Some
returns-in-Some c =
    let z = goal.at.returns-in-Some c in
    (left_as (looked z.After-look-words) (some_listed _ _ _ _ _ (sym (first_is z.After-oldest) ∙ c.in-Some.is))).whole _ _ c.notify_those.ensures

pub returns-in-None : goal.returns-in-None
returns-in-None c =
    let z = goal.at.returns-in-None c in
    last_made (λ _. done 0) c.publish.ensures refl (left_as (looked z.After-look-words) (none_listed _ _ _ _ (sym (first_is z.After-oldest) ∙ c.in-None.is)))
