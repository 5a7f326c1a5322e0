use Rattle.std.proofs.Common.{refl}
use Rattle.core_world.specs.Trees.MonitorSteps.{prepare_steps}
use Rattle.core_world.specs.Trees.StepTree.{after_answer}
use Rattle.heap_table.proofs.StepsLeft.{AreLeft, all_left, can_make, step_made, all_made}
use Rattle.object_monitor.proofs.inflates.prepare.Goals as goal
use Rattle.object_monitor.proofs.inflates.prepare.Goals.{After-store-2}

pub store-requires : goal.store-requires
store-requires c = can_make (all_left c.requires.heap c.requires.due) refl refl refl tt

pub store-requires-2 : goal.store-requires-2
store-requires-2 c = can_make (step_made (all_left c.requires.heap c.requires.due) refl refl refl c.store.ensures) refl refl refl tt

-- the header and the owner are stored
two_stored : (c : After-store-2) → AreLeft c.args.heap.now c.args.call.now.task c.args.pass.now
    (prepare_steps c.args.call.now c.args.stage c.args.object c.args.monitor c.args.header c.args.owner) c.store-2.new.pass
    (after_answer (after_answer (prepare_steps c.args.call.now c.args.stage c.args.object c.args.monitor c.args.header c.args.owner) c.store.result)
    c.store-2.result)
two_stored c = step_made (step_made (all_left c.requires.heap c.requires.due) refl refl refl c.store.ensures) refl refl refl c.store-2.ensures

pub store-requires-3 : goal.store-requires-3
store-requires-3 c = can_make (two_stored (goal.at.store-requires-3 c).After-store-2) refl refl refl tt

pub store-requires-4 : goal.store-requires-4
store-requires-4 c = can_make (step_made (two_stored (goal.at.store-requires-4 c).After-store-2) refl refl refl c.store-3.ensures) refl refl refl tt

pub returns : goal.returns
returns c =
    let three = step_made (two_stored (goal.at.returns c).After-store-2) refl refl refl c.store-3.ensures in
    all_made (step_made three refl refl refl c.store-4.ensures)
