use Rattle.std.proofs.Common.{◌+◌, arith, refl, sym, ap, ◌∙◌, eq-eqb, ne_eqb}
use Rattle.core_world.specs.Threads.ThreadView.{local_of}
use Rattle.core_world.specs.Trees.LockSteps.{raise_stamp_plan, raise_steps}
use Rattle.core_world.specs.Trees.Plans.{next_stamp}
use Rattle.core_world.specs.Trees.StepTree.{done, step}
use Rattle.heap_table.proofs.Ruled.{stamp_room}
use Rattle.heap_table.proofs.StepsLeft.{AreLeft, all_left, can_make, left_then, left_else, all_made}
use Rattle.stack_lock.proofs.exits.raise.Goals as goal
use Rattle.stack_lock.proofs.exits.raise.Goals.{After-last_stamp-stamp}

-- the thread has one hold
one_held : (c : After-last_stamp-stamp) → AreLeft c.args.heap.now c.args.call.now.task c.args.pass.now
    (raise_steps c.args.call.now (local_of c.args.pass.now.known) c.args.object) c.args.pass.now
    (step (raise_stamp_plan c.args.call.now c.args.object (next_stamp (local_of c.args.pass.now.known))) (λ _. done tt))
one_held c = left_then _ _ _ (all_left c.requires.heap c.requires.due) (eq-eqb _ _ (sym c.requires.depth ∙ c.if-depth-eq1.true))

pub overflow_add-stamp : goal.overflow_add-stamp
overflow_add-stamp c =
    let left = one_held (goal.at.overflow_add-stamp c).After-last_stamp-stamp in
    let room = stamp_room c.args.heap.now c.args.pass.now c.args.call.now c.args.object _ _ left.heap left.due in
    let is = c.last_stamp-stamp.ensures in
    omega (arith, room, is)

pub raise-requires : goal.raise-requires
raise-requires c = can_make (one_held (goal.at.raise-requires c).After-last_stamp-stamp)
    (ap (λ w. raise_stamp_plan c.args.call.now c.args.object (w + 1)) c.last_stamp-stamp.ensures) refl refl tt

-- with another number of holds no step is made
pub returns-clause-run : goal.returns-clause-run
returns-clause-run c =
    all_made (left_else _ _ _ (all_left c.requires.heap c.requires.due) (ne_eqb _ _ (λ one. c.if-depth-eq1.false (c.requires.depth ∙ one))))
