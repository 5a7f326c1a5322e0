use Rattle.std.proofs.Common.{if◌then◌else◌, refl, sym, ◌∙◌}
use Rattle.core_world.specs.declared.answer.BiasTry.TheVariants.{Unbiased}
use Rattle.core_world.specs.declared.stage.Stage.TheVariants.{Settled}
use Rattle.core_world.specs.Words.Forms.{is_biased}
use Rattle.core_world.specs.Trees.BiasSteps.{bias_drop_steps}
use Rattle.core_world.specs.Trees.Plans.{class_steps}
use Rattle.core_world.specs.Trees.StepTree.{done, ◌>>=◌}
use Rattle.bias_lock.specs.inner.Parts.{prototype_drop}
use Rattle.heap_table.proofs.StepsLeft.{AreLeft, all_left, can_make, step_made, left_then, left_else, all_made, part_of, class_left}
use Rattle.bias_lock.proofs.Keeping.{drop_keeps}
use Rattle.bias_lock.proofs.drops.bias_drop.Goals as goal
use Rattle.bias_lock.proofs.drops.bias_drop.Goals.{After-load-mark, After-class_of-class}

pub load-mark-requires : goal.load-mark-requires
load-mark-requires c = can_make (all_left c.requires.heap c.requires.due) refl refl refl tt

loaded : (c : After-load-mark) → AreLeft c.args.heap.now c.args.call.now.task c.args.pass.now
    (bias_drop_steps c.args.heap.now.heap.shape c.args.call.now c.args.object) c.load-mark.new.pass
    (if is_biased c.load-mark.result
    then class_steps c.args.call.now Settled c.args.heap.now.heap.shape c.args.object
    >>= (λ class. prototype_drop c.args.call.now class c.args.object c.load-mark.result)
    else done (Unbiased c.load-mark.result))
loaded c = step_made (all_left c.requires.heap c.requires.due) refl refl refl c.load-mark.ensures

classed : (c : After-class_of-class) → AreLeft c.args.heap.now c.args.call.now.task c.args.pass.now
    (bias_drop_steps c.args.heap.now.heap.shape c.args.call.now c.args.object) c.class_of-class.new.pass
    (prototype_drop c.args.call.now c.class_of-class.result c.args.object c.load-mark.result)
classed c = class_left _ _ _ (λ class. prototype_drop c.args.call.now class c.args.object c.load-mark.result) c.class_of-class.ensures
    (left_then _ _ _ (loaded c.before.before.before.before) (sym c.is_biased.ensures ∙ c.if-is_biased.true))

pub class_of-class-requires-clause-due : goal.class_of-class-requires-clause-due
class_of-class-requires-clause-due c = part_of (λ class. prototype_drop c.args.call.now class c.args.object c.load-mark.result)
    (left_then _ _ _ (loaded (goal.at.class_of-class-requires-clause-due c).After-load-mark) (sym c.is_biased.ensures ∙ c.if-is_biased.true))

pub drop_biased-requires-clause-due : goal.drop_biased-requires-clause-due
drop_biased-requires-clause-due c = (classed (goal.at.drop_biased-requires-clause-due c).After-class_of-class).due

pub returns-then-is_biased-clause-run : goal.returns-then-is_biased-clause-run
returns-then-is_biased-clause-run c = (classed (goal.at.returns-then-is_biased-clause-run c).After-class_of-class).whole _ _ c.drop_biased.ensures

pub returns-clause-run : goal.returns-clause-run
returns-clause-run c = all_made (left_else _ _ _ (loaded (goal.at.returns-clause-run c).After-load-mark) (sym c.is_biased.ensures ∙ c.if-is_biased.false))

pub returns-then-is_biased-clause-kept : goal.returns-then-is_biased-clause-kept
returns-then-is_biased-clause-kept c =
    drop_keeps c.args.heap.now.heap.shape c.args.heap.now.heap.start c.args.call.now c.args.object c.args.pass.now.known
    c.drop_biased.new.pass.known c.drop_biased.result (returns-then-is_biased-clause-run c).ran.by

pub returns-clause-kept : goal.returns-clause-kept
returns-clause-kept c =
    drop_keeps c.args.heap.now.heap.shape c.args.heap.now.heap.start c.args.call.now c.args.object c.args.pass.now.known
    c.load-mark.new.pass.known (Unbiased c.load-mark.result) (returns-clause-run c).ran.by
