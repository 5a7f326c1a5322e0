use Rattle.std.proofs.Common.{refl}
use Rattle.core_world.specs.Trees.LockSteps.{leave_plan}
use Rattle.heap_table.proofs.StepsLeft.{all_left, can_make, step_made, all_made}
use Rattle.stack_lock.proofs.exits.leave.Goals as goal

pub log_store-requires : goal.log_store-requires
log_store-requires c = can_make (all_left c.requires.heap c.requires.due)
    (λ i. leave_plan c.args.call.now (c.thread.ensures.same i) c.args.object c.args.place) refl refl c.requires.room

pub returns : goal.returns
returns c = all_made (step_made (all_left c.requires.heap c.requires.due)
    (λ i. leave_plan c.args.call.now (c.thread.ensures.same i) c.args.object c.args.place) refl refl c.log_store.ensures)
