use Rattle.std.proofs.Common.{if◌then◌else◌, refl, sym, arith}
use Rattle.core_world.specs.Trees.DeflateSteps.{deflate_monitor, deflate_named}
use Rattle.core_world.specs.Trees.StepTree.{done}
use Rattle.heap_table.proofs.StepsLeft.{AreLeft, all_left, can_make, step_made, left_as, left_then, left_else, all_made}
use Rattle.safepoint_work.proofs.Deflating.{object_low}
use Rattle.safepoint_work.proofs.deflates.deflate_monitor.Goals as goal
use Rattle.safepoint_work.proofs.deflates.deflate_monitor.Goals.{After-names_monitor}

pub load-word-requires : goal.load-word-requires
load-word-requires c = can_make (all_left c.requires.heap c.requires.due) refl refl refl tt

pub overflow_cast-object : goal.overflow_cast-object
overflow_cast-object c =
    let low = object_low _ _ _ c.args.call.now c.args.stage c.args.monitor _ c.requires.heap c.load-word.ensures in
    omega (arith, low)

pub load-mark-requires : goal.load-mark-requires
load-mark-requires c = can_make (step_made (all_left c.requires.heap c.requires.due) refl refl refl c.load-word.ensures) refl refl refl tt

-- the object's mark is loaded
loaded : (c : After-names_monitor) → AreLeft c.args.heap.now c.args.call.now.task c.args.pass.now
    (deflate_monitor c.args.heap.now.heap.shape c.args.call.now c.args.stage c.args.monitor) c.load-mark.new.pass
    (if c.names_monitor.result
    then deflate_named c.args.heap.now.heap.shape c.args.call.now c.args.stage c.load-word.result c.args.monitor else done tt)
loaded c =
    let a = c.args in
    let one = step_made (all_left c.requires.heap c.requires.due) refl refl refl c.load-word.ensures in
    left_as (step_made one refl refl refl c.load-mark.ensures) (λ i. if sym c.names_monitor.ensures i
    then deflate_named a.heap.now.heap.shape a.call.now a.stage c.load-word.result a.monitor else done tt)

pub deflate_named-requires-clause-due : goal.deflate_named-requires-clause-due
deflate_named-requires-clause-due c =
    (left_then _ _ _ (loaded (goal.at.deflate_named-requires-clause-due c).After-names_monitor) c.if-names_monitor.true).due

pub returns-then-names_monitor : goal.returns-then-names_monitor
returns-then-names_monitor c =
    (left_then _ _ _ (loaded (goal.at.returns-then-names_monitor c).After-names_monitor) c.if-names_monitor.true).whole _ _ c.deflate_named.ensures

pub returns-else-names_monitor : goal.returns-else-names_monitor
returns-else-names_monitor c =
    all_made (left_else _ _ _ (loaded (goal.at.returns-else-names_monitor c).After-names_monitor) c.if-names_monitor.false)
