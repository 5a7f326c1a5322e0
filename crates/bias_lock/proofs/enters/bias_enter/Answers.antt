use Rattle.std.proofs.Common.{if◌then◌else◌, refl, sym, ap, ◌∙◌}
use Rattle.core_world.specs.declared.answer.BiasTry.TheVariants.{Unbiased}
use Rattle.core_world.specs.declared.stage.Stage.TheVariants.{Settled}
use Rattle.core_world.specs.Threads.ThreadView.{local_of}
use Rattle.core_world.specs.Words.Forms.{is_biased}
use Rattle.core_world.specs.Trees.BiasSteps.{bias_enter_steps}
use Rattle.core_world.specs.Trees.Plans.{class_steps}
use Rattle.core_world.specs.Trees.StepTree.{done, ◌>>=◌}
use Rattle.heap_table.proofs.Aside.{room_aside}
use Rattle.heap_table.proofs.ClassSteps.{class_alike}
use Rattle.bias_lock.specs.inner.Parts.{prototype_enter}
use Rattle.heap_table.proofs.StepsLeft.{AreLeft, all_left, can_make, step_made, left_as, left_then, left_else, all_made, part_of, class_left, room_after}
use Rattle.bias_lock.proofs.Keeping.{enter_keeps}
use Rattle.bias_lock.proofs.enters.bias_enter.Goals as goal
use Rattle.bias_lock.proofs.enters.bias_enter.Goals.{After-load-mark, After-class_of-class}

pub load-mark-requires : goal.load-mark-requires
load-mark-requires c = can_make (all_left c.requires.heap c.requires.due) refl refl refl tt

loaded : (c : After-load-mark) → AreLeft c.args.heap.now c.args.call.now.task c.args.pass.now
    (bias_enter_steps c.args.heap.now.heap.shape c.args.call.now (local_of c.args.pass.now.known) c.args.object) c.load-mark.new.pass
    (if is_biased c.load-mark.result
    then class_steps c.args.call.now Settled c.args.heap.now.heap.shape c.args.object
    >>= (λ class. prototype_enter c.args.call.now (local_of c.load-mark.new.pass.known) class c.args.object c.load-mark.result)
    else done (Unbiased c.load-mark.result))
loaded c =
    let local = ap local_of c.load-mark.ensures.known in
    left_as (step_made (all_left c.requires.heap c.requires.due) refl refl refl c.load-mark.ensures)
    (λ i. if is_biased c.load-mark.result
    then class_steps c.args.call.now Settled c.args.heap.now.heap.shape c.args.object
    >>= (λ class. prototype_enter c.args.call.now (sym local i) class c.args.object c.load-mark.result)
    else done (Unbiased c.load-mark.result))

classed : (c : After-class_of-class) → AreLeft c.args.heap.now c.args.call.now.task c.args.pass.now
    (bias_enter_steps c.args.heap.now.heap.shape c.args.call.now (local_of c.args.pass.now.known) c.args.object) c.class_of-class.new.pass
    (prototype_enter c.args.call.now (local_of c.class_of-class.new.pass.known) c.class_of-class.result c.args.object c.load-mark.result)
classed c =
    let local = (class_alike c.args.heap.now c.load-mark.new.pass c.class_of-class.new.pass _ _ _ _ c.class_of-class.ensures).local in
    left_as (class_left _ _ _ (λ class. prototype_enter c.args.call.now (local_of c.load-mark.new.pass.known) class c.args.object c.load-mark.result)
    c.class_of-class.ensures (left_then _ _ _ (loaded c.before.before.before.before) (sym c.is_biased.ensures ∙ c.if-is_biased.true)))
    (λ i. prototype_enter c.args.call.now (sym local i) c.class_of-class.result c.args.object c.load-mark.result)

pub class_of-class-requires-clause-due : goal.class_of-class-requires-clause-due
class_of-class-requires-clause-due c =
    part_of (λ class. prototype_enter c.args.call.now (local_of c.load-mark.new.pass.known) class c.args.object c.load-mark.result)
    (left_then _ _ _ (loaded (goal.at.class_of-class-requires-clause-due c).After-load-mark) (sym c.is_biased.ensures ∙ c.if-is_biased.true))

pub enter_biased-requires-clause-due : goal.enter_biased-requires-clause-due
enter_biased-requires-clause-due c = (classed (goal.at.enter_biased-requires-clause-due c).After-class_of-class).due

pub enter_biased-requires-clause-room : goal.enter_biased-requires-clause-room
enter_biased-requires-clause-room c =
    room_aside c.load-mark.new.pass c.class_of-class.new.pass
    (class_alike c.args.heap.now c.load-mark.new.pass c.class_of-class.new.pass _ _ _ _ c.class_of-class.ensures) c.class_of-class.ensures.limit
    (room_after c.load-mark.ensures refl refl refl c.requires.room)

pub returns-then-is_biased-clause-run : goal.returns-then-is_biased-clause-run
returns-then-is_biased-clause-run c = (classed (goal.at.returns-then-is_biased-clause-run c).After-class_of-class).whole _ _ c.enter_biased.ensures

pub returns-clause-run : goal.returns-clause-run
returns-clause-run c = all_made (left_else _ _ _ (loaded (goal.at.returns-clause-run c).After-load-mark) (sym c.is_biased.ensures ∙ c.if-is_biased.false))

pub returns-then-is_biased-clause-kept : goal.returns-then-is_biased-clause-kept
returns-then-is_biased-clause-kept c =
    enter_keeps c.args.heap.now.heap.shape c.args.heap.now.heap.start c.args.call.now (local_of c.args.pass.now.known) c.args.object c.args.pass.now.known
    c.enter_biased.new.pass.known c.enter_biased.result (returns-then-is_biased-clause-run c).ran.by

pub returns-clause-kept : goal.returns-clause-kept
returns-clause-kept c =
    enter_keeps c.args.heap.now.heap.shape c.args.heap.now.heap.start c.args.call.now (local_of c.args.pass.now.known) c.args.object c.args.pass.now.known
    c.load-mark.new.pass.known (Unbiased c.load-mark.result) (returns-clause-run c).ran.by
