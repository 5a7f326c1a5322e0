use Rattle.std.proofs.Common.{◌==◌, ℕ, if◌then◌else◌, refl, sym, ap, ◌∙◌, eq-eqb, ne_eqb}
use Rattle.mark_word.specs.Hold.{read_hold}
use Rattle.core_world.specs.Trees.Plans.{class_steps}
use Rattle.core_world.specs.Trees.RevocationSteps.{revocation_stage, visit_held}
use Rattle.core_world.specs.Trees.StepTree.{StepTree, done, ◌>>=◌}
use Rattle.heap_table.proofs.Forms.{found_formed}
use Rattle.heap_table.proofs.StepsLeft.{AreLeft, all_left, can_make, step_made, left_as, left_then, left_else, class_left, all_made}
use Rattle.safepoint_work.specs.inner.RevokeParts.{visit_by, object_steps, place_steps}
use Rattle.safepoint_work.proofs.After.{made_as, due_as}
use Rattle.safepoint_work.proofs.RevokeWords.{held_there}
use Rattle.safepoint_work.proofs.walks.walk_place.Goals as goal
use Rattle.safepoint_work.proofs.walks.walk_place.Goals.{In-Some, After-class_of-its}

pub look-hold-requires : goal.look-hold-requires
look-hold-requires c = can_make (all_left c.requires.heap c.requires.due) refl refl refl tt

-- the hold names an object,
abbrev after_class : (c : In-Some) → ℕ → StepTree (Unit {0})
after_class c its = if its == c.args.class then object_steps c.args.call.now c.args.revocation.now c.args.how c.in-Some.object else done tt

held : (c : In-Some) → AreLeft c.args.heap.now c.args.call.now.task c.args.pass.now
    (place_steps c.args.heap.now.heap.shape c.args.class c.args.call.now c.args.revocation.now c.args.how c.args.thread c.args.place)
    c.look-hold.new.pass
    (class_steps c.args.call.now (revocation_stage c.args.revocation.now) c.args.heap.now.heap.shape c.in-Some.object >>= after_class c)
held c =
    let a = c.args in
    left_as (step_made (all_left c.requires.heap c.requires.due) refl refl refl c.look-hold.ensures)
    (ap (visit_held a.heap.now.heap.shape a.class a.call.now a.revocation.now (visit_by a.how a.call.now a.revocation.now))
    (sym c.object_of_hold.ensures ∙ c.in-Some.is))

-- and that has this class
classed : (c : After-class_of-its) → AreLeft c.args.heap.now c.args.call.now.task c.args.pass.now
    (place_steps c.args.heap.now.heap.shape c.args.class c.args.call.now c.args.revocation.now c.args.how c.args.thread c.args.place)
    c.class_of-its.new.pass (after_class c.before.before.before c.class_of-its.result)
classed c =
    class_left c.args.call.now (revocation_stage c.args.revocation.now) c.in-Some.object (after_class c.before.before.before)
    (made_as c.class_of-its.ensures (λ i. class_steps c.args.call.now (c.stage.ensures i) c.args.heap.now.heap.shape c.in-Some.object))
    (held c.before.before.before)

pub class_of-its-requires-clause-due : goal.class_of-its-requires-clause-due
class_of-its-requires-clause-due c =
    let z = (goal.at.class_of-its-requires-clause-due c).In-Some in
    due_as (after_class z) (held z) (λ i. class_steps c.args.call.now (c.stage.ensures i) c.args.heap.now.heap.shape c.in-Some.object)

pub visit_object-requires-clause-object : goal.visit_object-requires-clause-object
visit_object-requires-clause-object c =
    held_there c.args.heap.now.heap.shape (read_hold c.look-hold.result) c.in-Some.object (found_formed _ _ _ _ _ c.look-hold.ensures)
    (sym c.object_of_hold.ensures ∙ c.in-Some.is)

pub visit_object-requires-clause-due : goal.visit_object-requires-clause-due
visit_object-requires-clause-due c =
    (left_then _ _ _ (classed (goal.at.visit_object-requires-clause-due c).After-class_of-its) (eq-eqb _ _ c.if-its-class.true)).due

pub returns-then-its-class : goal.returns-then-its-class
returns-then-its-class c =
    (left_then _ _ _ (classed (goal.at.returns-then-its-class c).After-class_of-its) (eq-eqb _ _ c.if-its-class.true)).whole _ _
    c.visit_object.ensures

pub returns-else-its-class : goal.returns-else-its-class
returns-else-its-class c =
    all_made (left_else _ _ _ (classed (goal.at.returns-else-its-class c).After-class_of-its) (ne_eqb _ _ c.if-its-class.false))
