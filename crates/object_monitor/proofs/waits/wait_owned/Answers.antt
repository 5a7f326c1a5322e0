use Rattle.std.proofs.Common.{refl, sym, ap}
use Rattle.core_world.specs.Threads.ThreadView.{local_of}
use Rattle.core_world.specs.Trees.StepTree.{done, ◌>>=◌}
use Rattle.object_monitor.specs.inner.WaitParts.{owned_wait, stamped_wait, quit_steps}
use Rattle.heap_table.proofs.StepsLeft.{AreLeft, all_left, can_make, step_made, left_as, part_of, after_part}
use Rattle.object_monitor.proofs.waits.wait_owned.Goals as goal
use Rattle.object_monitor.proofs.waits.wait_owned.Goals.{After-load_and_keep-recursions}

pub load_and_keep-recursions-requires : goal.load_and_keep-recursions-requires
load_and_keep-recursions-requires c = can_make (all_left c.requires.heap c.requires.due) refl refl refl tt

saved : (c : After-load_and_keep-recursions) → AreLeft c.args.heap.now c.args.call.now.task c.args.pass.now
    (owned_wait c.args.call.now (local_of c.args.pass.now.known) c.args.object c.args.monitor) c.load_and_keep-recursions.new.pass
    (stamped_wait c.args.call.now (local_of c.load_and_keep-recursions.new.pass.known) c.args.object
    >>= (λ _. quit_steps c.args.call.now c.args.object c.args.monitor >>= (λ _. done c.load_and_keep-recursions.result)))
saved c =
    let local = ap local_of c.load_and_keep-recursions.ensures.known in
    left_as (step_made (all_left c.requires.heap c.requires.due) refl refl refl c.load_and_keep-recursions.ensures)
    (λ i. stamped_wait c.args.call.now (sym local i) c.args.object
    >>= (λ _. quit_steps c.args.call.now c.args.object c.args.monitor >>= (λ _. done c.load_and_keep-recursions.result)))

pub log_wait-requires-clause-due : goal.log_wait-requires-clause-due
log_wait-requires-clause-due c =
    part_of (λ _. quit_steps c.args.call.now c.args.object c.args.monitor >>= (λ _. done c.load_and_keep-recursions.result))
    (saved (goal.at.log_wait-requires-clause-due c).After-load_and_keep-recursions)

pub quit-requires-clause-due : goal.quit-requires-clause-due
quit-requires-clause-due c = part_of (λ _. done c.load_and_keep-recursions.result)
    (after_part (λ _. quit_steps c.args.call.now c.args.object c.args.monitor >>= (λ _. done c.load_and_keep-recursions.result)) c.log_wait.ensures refl
    (saved (goal.at.quit-requires-clause-due c).After-load_and_keep-recursions))
