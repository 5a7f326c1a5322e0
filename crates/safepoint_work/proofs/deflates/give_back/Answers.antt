use Rattle.std.proofs.Common.{refl}
use Rattle.core_world.specs.Trees.DeflateSteps.{give_back_steps}
use Rattle.core_world.specs.Trees.StepTree.{◌>>=◌}
use Rattle.heap_table.proofs.StepsLeft.{AreLeft, all_left, can_make, step_made, part_of}
use Rattle.safepoint_work.specs.inner.DeflateParts.{clean_steps, enqueue_steps}
use Rattle.safepoint_work.proofs.After.{left_after}
use Rattle.safepoint_work.proofs.deflates.give_back.Goals as goal
use Rattle.safepoint_work.proofs.deflates.give_back.Goals.{After-store_and_keep, After-clean}

pub load-header-requires : goal.load-header-requires
load-header-requires c = can_make (all_left c.requires.heap c.requires.due) refl refl refl tt

pub load-end-requires : goal.load-end-requires
load-end-requires c = can_make (step_made (all_left c.requires.heap c.requires.due) refl refl refl c.load-header.ensures) refl refl refl tt

pub store_and_keep-requires : goal.store_and_keep-requires
store_and_keep-requires c =
    let one = step_made (all_left c.requires.heap c.requires.due) refl refl refl c.load-header.ensures in
    can_make (step_made one refl refl refl c.load-end.ensures) refl refl refl tt

-- the header is the mark, and the monitor is to be cleaned and enqueued
detached : (c : After-store_and_keep) → AreLeft c.args.heap.now c.args.call.now.task c.args.pass.now
    (give_back_steps c.args.heap.now.heap.shape c.args.call.now c.args.stage c.args.object c.args.monitor) c.store_and_keep.new.pass
    (clean_steps c.args.call.now c.args.stage c.args.monitor
    >>= (λ _. enqueue_steps c.args.heap.now.heap.shape c.args.call.now c.args.stage c.load-end.result c.args.monitor))
detached c =
    let one = step_made (all_left c.requires.heap c.requires.due) refl refl refl c.load-header.ensures in
    step_made (step_made one refl refl refl c.load-end.ensures) refl refl refl c.store_and_keep.ensures

pub clean-requires-clause-due : goal.clean-requires-clause-due
clean-requires-clause-due c =
    part_of (λ _. enqueue_steps c.args.heap.now.heap.shape c.args.call.now c.args.stage c.load-end.result c.args.monitor)
    (detached (goal.at.clean-requires-clause-due c).After-store_and_keep)

cleaned : (c : After-clean) → AreLeft c.args.heap.now c.args.call.now.task c.args.pass.now
    (give_back_steps c.args.heap.now.heap.shape c.args.call.now c.args.stage c.args.object c.args.monitor) c.clean.new.pass
    (enqueue_steps c.args.heap.now.heap.shape c.args.call.now c.args.stage c.load-end.result c.args.monitor)
cleaned c = left_after (λ _. enqueue_steps c.args.heap.now.heap.shape c.args.call.now c.args.stage c.load-end.result c.args.monitor)
    c.clean.ensures refl (detached c.before.before)

pub enqueue-requires-clause-due : goal.enqueue-requires-clause-due
enqueue-requires-clause-due c = (cleaned (goal.at.enqueue-requires-clause-due c).After-clean).due

pub returns : goal.returns
returns c = (cleaned (goal.at.returns c).After-clean).whole _ _ c.enqueue.ensures
