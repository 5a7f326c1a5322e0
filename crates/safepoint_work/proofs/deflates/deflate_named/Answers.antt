use Rattle.std.proofs.Common.{◌==◌, if◌then◌else◌, refl, eq-eqb, ne_eqb}
use Rattle.core_world.specs.Trees.DeflateSteps.{deflate_free, deflate_named}
use Rattle.core_world.specs.Trees.StepTree.{done}
use Rattle.heap_table.proofs.StepsLeft.{AreLeft, all_left, can_make, step_made, left_then, left_else, all_made}
use Rattle.safepoint_work.proofs.deflates.deflate_named.Goals as goal
use Rattle.safepoint_work.proofs.deflates.deflate_named.Goals.{After-load-owner}

pub load-owner-requires : goal.load-owner-requires
load-owner-requires c = can_make (all_left c.requires.heap c.requires.due) refl refl refl tt

loaded : (c : After-load-owner) → AreLeft c.args.heap.now c.args.call.now.task c.args.pass.now
    (deflate_named c.args.heap.now.heap.shape c.args.call.now c.args.stage c.args.object c.args.monitor) c.load-owner.new.pass
    (if c.load-owner.result == 0 then deflate_free c.args.heap.now.heap.shape c.args.call.now c.args.stage c.args.object c.args.monitor else done tt)
loaded c = step_made (all_left c.requires.heap c.requires.due) refl refl refl c.load-owner.ensures

pub deflate_free-requires-clause-due : goal.deflate_free-requires-clause-due
deflate_free-requires-clause-due c =
    (left_then _ _ _ (loaded (goal.at.deflate_free-requires-clause-due c).After-load-owner) (eq-eqb _ _ c.if-owner-eq0.true)).due

pub returns-then-owner-eq0 : goal.returns-then-owner-eq0
returns-then-owner-eq0 c =
    (left_then _ _ _ (loaded (goal.at.returns-then-owner-eq0 c).After-load-owner) (eq-eqb _ _ c.if-owner-eq0.true)).whole _ _ c.deflate_free.ensures

pub returns-else-owner-eq0 : goal.returns-else-owner-eq0
returns-else-owner-eq0 c = all_made (left_else _ _ _ (loaded (goal.at.returns-else-owner-eq0 c).After-load-owner) (ne_eqb _ _ c.if-owner-eq0.false))
