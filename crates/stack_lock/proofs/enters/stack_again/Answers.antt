use Rattle.std.proofs.Common.{refl, sym, ap}
use Rattle.plain_monitor.specs.declared.entry.Path.TheVariants.{StackAgain}
use Rattle.core_world.specs.declared.word_id.WordId.TheVariants.{Displaced}
use Rattle.core_world.specs.declared.stage.Stage.TheVariants.{Settled}
use Rattle.core_world.specs.Threads.ThreadView.{local_of}
use Rattle.core_world.specs.Trees.LockSteps.{stack_again_steps, hold_steps}
use Rattle.core_world.specs.Trees.Plans.{done_with}
use Rattle.core_world.specs.Trees.StepTree.{◌>>=◌}
use Rattle.heap_table.specs.StepPlans.{store_plan}
use Rattle.heap_table.proofs.StepsLeft.{AreLeft, all_left, can_make, step_made, left_as, part_of, last_made}
use Rattle.stack_lock.proofs.enters.stack_again.Goals as goal
use Rattle.stack_lock.proofs.enters.stack_again.Goals.{After-store}

pub store-requires : goal.store-requires
store-requires c = can_make (all_left c.requires.heap c.requires.due)
    (λ i. store_plan c.args.call.now Settled (Displaced (c.thread.ensures.same i) (c.free_place.ensures.place i)) 0) refl refl tt

stored : (c : After-store) → AreLeft c.args.heap.now c.args.call.now.task c.args.pass.now
    (stack_again_steps c.args.call.now (local_of c.args.pass.now.known) c.args.object) c.store.new.pass
    (hold_steps c.args.call.now (local_of c.store.new.pass.known) c.args.object StackAgain >>= done_with)
stored c =
    let left = step_made (all_left c.requires.heap c.requires.due)
    (λ i. store_plan c.args.call.now Settled (Displaced (c.thread.ensures.same i) (c.free_place.ensures.place i)) 0) refl refl c.store.ensures in
    left_as left (λ i. hold_steps c.args.call.now (sym (ap local_of c.store.ensures.known) i) c.args.object StackAgain >>= done_with)

pub hold-requires-clause-due : goal.hold-requires-clause-due
hold-requires-clause-due c = part_of done_with (stored (goal.at.hold-requires-clause-due c).After-store)

pub returns : goal.returns
returns c = last_made done_with c.hold.ensures refl (stored (goal.at.returns c).After-store)
