use Rattle.std.proofs.Common.{refl, sym}
use Rattle.core_world.specs.Threads.ThreadView.{local_of}
use Rattle.stack_lock.specs.Parts.{leave_at}
use Rattle.heap_table.specs.ExitParts.{lowered_exit}
use Rattle.heap_table.proofs.StepsLeft.{AreLeft, all_left, can_make, step_made, left_as, thread_stays}
use Rattle.object_monitor.proofs.exits.lower.Goals as goal
use Rattle.object_monitor.proofs.exits.lower.Goals.{After-store}

pub store-requires : goal.store-requires
store-requires c = can_make (all_left c.requires.heap c.requires.due) refl refl refl tt

lowered : (c : After-store) → AreLeft c.args.heap.now c.args.call.now.task c.args.pass.now
    (lowered_exit c.args.call.now (local_of c.args.pass.now.known) c.args.object c.args.monitor c.args.recursions) c.store.new.pass
    (leave_at c.args.call.now c.store.new.pass.known.thread c.args.object c.args.place)
lowered c =
    let thread = thread_stays c.store.ensures in
    left_as (step_made (all_left c.requires.heap c.requires.due) refl refl refl c.store.ensures)
    (λ i. leave_at c.args.call.now (sym thread i) c.args.object (sym c.requires.place i))

pub leave-requires-clause-due : goal.leave-requires-clause-due
leave-requires-clause-due c = (lowered (goal.at.leave-requires-clause-due c).After-store).due

pub returns : goal.returns
returns c = (lowered (goal.at.returns c).After-store).whole _ _ c.leave.ensures
