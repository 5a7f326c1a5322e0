use Rattle.std.proofs.Common.{refl, sym, ap, ◌∙◌, arith}
use Rattle.plain_monitor.specs.declared.entry.Path.TheVariants.{MonitorAgain}
use Rattle.core_world.specs.declared.stage.Stage.TheVariants.{RecursionsRaised}
use Rattle.core_world.specs.Threads.ThreadView.{local_of}
use Rattle.core_world.specs.Trees.MonitorSteps.{monitor_again_steps, record_steps}
use Rattle.heap_table.proofs.StepsLeft.{AreLeft, all_left, can_make, step_made, left_as}
use Rattle.heap_table.proofs.RecursionRoom.{recursion_room}
use Rattle.object_monitor.proofs.enters.monitor_again.Goals as goal
use Rattle.object_monitor.proofs.enters.monitor_again.Goals.{After-store}

pub load-recursions-requires : goal.load-recursions-requires
load-recursions-requires c = can_make (all_left c.requires.heap c.requires.due) refl refl refl tt

pub overflow_add-recursions : goal.overflow_add-recursions
overflow_add-recursions c =
    let a = c.args in
    let room =
    recursion_room a.heap.now a.pass.now c.load-recursions.new.pass a.call.now a.object a.monitor c.load-recursions.result
    c.requires.heap c.requires.due c.load-recursions.ensures in
    omega (arith, room)

pub store-requires : goal.store-requires
store-requires c = can_make (step_made (all_left c.requires.heap c.requires.due) refl refl refl c.load-recursions.ensures) refl refl refl tt

-- the recursions are raised
raised : (c : After-store) → AreLeft c.args.heap.now c.args.call.now.task c.args.pass.now
    (monitor_again_steps c.args.call.now (local_of c.args.pass.now.known) c.args.object c.args.monitor) c.store.new.pass
    (record_steps c.args.call.now (RecursionsRaised c.args.object) (local_of c.store.new.pass.known) c.args.object MonitorAgain)
raised c =
    let loaded = step_made (all_left c.requires.heap c.requires.due) refl refl refl c.load-recursions.ensures in
    let local = ap local_of c.store.ensures.known ∙ ap local_of c.load-recursions.ensures.known in
    left_as (step_made loaded refl refl refl c.store.ensures)
    (λ i. record_steps c.args.call.now (RecursionsRaised c.args.object) (sym local i) c.args.object MonitorAgain)

pub push_record-requires-clause-due : goal.push_record-requires-clause-due
push_record-requires-clause-due c = (raised (goal.at.push_record-requires-clause-due c).After-store).due

pub returns : goal.returns
returns c = (raised (goal.at.returns c).After-store).whole _ _ c.push_record.ensures
