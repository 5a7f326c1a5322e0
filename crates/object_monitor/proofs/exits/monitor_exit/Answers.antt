use Rattle.std.proofs.Common.{refl, sym, ap, ◌∙◌}
use Rattle.mark_word.specs.Owner.{read_owner}
use Rattle.core_world.specs.Threads.ThreadView.{Local, local_of}
use Rattle.core_world.specs.Trees.MonitorSteps.{monitor_exit_steps}
use Rattle.core_world.specs.Trees.Plans.{top_place}
use Rattle.heap_table.specs.ExitParts.{owned_exit}
use Rattle.heap_table.proofs.StepsLeft.{AreLeft, all_left, can_make, step_made, left_as}
use Rattle.object_monitor.proofs.exits.monitor_exit.Goals as goal
use Rattle.object_monitor.proofs.exits.monitor_exit.Goals.{After-load-owner}

pub load-owner-requires : goal.load-owner-requires
load-owner-requires c = can_make (all_left c.requires.heap c.requires.due) refl refl refl tt

-- what is left once the owner word is loaded
found_left : (c : After-load-owner) → AreLeft c.args.heap.now c.args.call.now.task c.args.pass.now
    (monitor_exit_steps c.args.call.now (local_of c.args.pass.now.known) c.args.object c.args.monitor) c.load-owner.new.pass
    (owned_exit (read_owner c.load-owner.result) c.args.call.now (local_of c.load-owner.new.pass.known) c.args.object c.args.monitor)
found_left c =
    let local = ap local_of c.load-owner.ensures.known in
    left_as (step_made (all_left c.requires.heap c.requires.due) refl refl refl c.load-owner.ensures)
    (λ i. owned_exit (read_owner c.load-owner.result) c.args.call.now (sym local i) c.args.object c.args.monitor)

pub monitor_exit_found-requires-clause-due : goal.monitor_exit_found-requires-clause-due
monitor_exit_found-requires-clause-due c = (found_left (goal.at.monitor_exit_found-requires-clause-due c).After-load-owner).due

pub monitor_exit_found-requires-clause-place : goal.monitor_exit_found-requires-clause-place
monitor_exit_found-requires-clause-place c =
    c.requires.place ∙ ap (λ (l : Local). top_place c.args.object l.holds) (sym (ap local_of c.load-owner.ensures.known))

pub returns : goal.returns
returns c = (found_left (goal.at.returns c).After-load-owner).whole _ _ c.monitor_exit_found.ensures
