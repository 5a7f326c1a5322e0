use Rattle.std.proofs.Common.{◌==◌, if◌then◌else◌, refl, sym, ap, eq-eqb, ne_eqb}
use Rattle.core_world.specs.declared.answer.StackOut.TheVariants.{Left}
use Rattle.core_world.specs.declared.word_id.WordId.TheVariants.{Displaced}
use Rattle.core_world.specs.Threads.ThreadView.{local_of}
use Rattle.core_world.specs.Trees.LockSteps.{stack_exit_record}
use Rattle.core_world.specs.Trees.Plans.{load}
use Rattle.core_world.specs.Trees.StepTree.{done, ◌>>=◌}
use Rattle.stack_lock.specs.Parts.{leave_at}
use Rattle.stack_lock.specs.inner.Parts.{marked_exit}
use Rattle.heap_table.proofs.StepsLeft.{AreLeft, all_left, can_make, step_made, left_as, left_then, left_else, part_of, last_made, thread_stays}
use Rattle.stack_lock.proofs.exits.leave_record.Goals as goal
use Rattle.stack_lock.proofs.exits.leave_record.Goals.{After-load-header}

pub load-header-requires : goal.load-header-requires
load-header-requires c =
    can_make (all_left c.requires.heap c.requires.due) (λ i. load c.args.call.now (Displaced (c.thread.ensures.same i) (c.requires.place i))) refl refl tt

loaded : (c : After-load-header) → AreLeft c.args.heap.now c.args.call.now.task c.args.pass.now
    (stack_exit_record c.args.call.now (local_of c.args.pass.now.known) c.args.object) c.load-header.new.pass
    (if c.load-header.result == 0
    then leave_at c.args.call.now c.load-header.new.pass.known.thread c.args.object c.args.place >>= (λ _. done Left)
    else marked_exit c.args.call.now (local_of c.load-header.new.pass.known) c.args.object c.load-header.result)
loaded c =
    let left = step_made (all_left c.requires.heap c.requires.due) (λ i. load c.args.call.now (Displaced (c.thread.ensures.same i) (c.requires.place i)))
    refl refl c.load-header.ensures in
    let thread = thread_stays c.load-header.ensures in
    let local = ap local_of c.load-header.ensures.known in
    left_as left (λ i. if c.load-header.result == 0
    then leave_at c.args.call.now (sym thread i) c.args.object (sym c.requires.place i) >>= (λ _. done Left)
    else marked_exit c.args.call.now (sym local i) c.args.object c.load-header.result)

pub leave-requires-clause-due : goal.leave-requires-clause-due
leave-requires-clause-due c =
    part_of (λ _. done Left) (left_then _ _ _ (loaded (goal.at.leave-requires-clause-due c).After-load-header) (eq-eqb _ _ c.if-header-eq0.true))

pub leave_lock-requires-clause-due : goal.leave_lock-requires-clause-due
leave_lock-requires-clause-due c =
    (left_else _ _ _ (loaded (goal.at.leave_lock-requires-clause-due c).After-load-header) (ne_eqb _ _ c.if-header-eq0.false)).due

pub returns-then-header-eq0 : goal.returns-then-header-eq0
returns-then-header-eq0 c = last_made (λ _. done Left) c.leave.ensures refl
    (left_then _ _ _ (loaded (goal.at.returns-then-header-eq0 c).After-load-header) (eq-eqb _ _ c.if-header-eq0.true))

pub returns : goal.returns
returns c = (left_else _ _ _ (loaded (goal.at.returns c).After-load-header) (ne_eqb _ _ c.if-header-eq0.false)).whole _ _ c.leave_lock.ensures
