use Rattle.std.proofs.Common.{◌==◌, if◌then◌else◌, refl, sym, ap, eq-eqb, ne_eqb}
use Rattle.core_world.specs.Threads.ThreadView.{local_of}
use Rattle.core_world.specs.Trees.MonitorSteps.{release_steps}
use Rattle.heap_table.specs.ExitParts.{counted_exit, lowered_exit}
use Rattle.heap_table.proofs.StepsLeft.{AreLeft, all_left, can_make, step_made, left_as, left_then, left_else}
use Rattle.object_monitor.proofs.exits.leave_owned.Goals as goal
use Rattle.object_monitor.proofs.exits.leave_owned.Goals.{After-load-recursions}

pub load-recursions-requires : goal.load-recursions-requires
load-recursions-requires c = can_make (all_left c.requires.heap c.requires.due) refl refl refl tt

loaded : (c : After-load-recursions) → AreLeft c.args.heap.now c.args.call.now.task c.args.pass.now
    (counted_exit c.args.call.now (local_of c.args.pass.now.known) c.args.object c.args.monitor) c.load-recursions.new.pass
    (if c.load-recursions.result == 0
    then release_steps c.args.call.now (local_of c.load-recursions.new.pass.known) c.args.object c.args.monitor
    else lowered_exit c.args.call.now (local_of c.load-recursions.new.pass.known) c.args.object c.args.monitor c.load-recursions.result)
loaded c =
    let local = ap local_of c.load-recursions.ensures.known in
    left_as (step_made (all_left c.requires.heap c.requires.due) refl refl refl c.load-recursions.ensures)
    (λ i. if c.load-recursions.result == 0
    then release_steps c.args.call.now (sym local i) c.args.object c.args.monitor
    else lowered_exit c.args.call.now (sym local i) c.args.object c.args.monitor c.load-recursions.result)

pub release-requires-clause-due : goal.release-requires-clause-due
release-requires-clause-due c =
    (left_then _ _ _ (loaded (goal.at.release-requires-clause-due c).After-load-recursions) (eq-eqb _ _ c.if-recursions-eq0.true)).due

pub lower-requires-clause-due : goal.lower-requires-clause-due
lower-requires-clause-due c =
    (left_else _ _ _ (loaded (goal.at.lower-requires-clause-due c).After-load-recursions) (ne_eqb _ _ c.if-recursions-eq0.false)).due

pub returns-then-recursions-eq0 : goal.returns-then-recursions-eq0
returns-then-recursions-eq0 c =
    (left_then _ _ _ (loaded (goal.at.returns-then-recursions-eq0 c).After-load-recursions) (eq-eqb _ _ c.if-recursions-eq0.true)).whole _ _
    c.release.ensures

pub returns-else-recursions-eq0 : goal.returns-else-recursions-eq0
returns-else-recursions-eq0 c =
    (left_else _ _ _ (loaded (goal.at.returns-else-recursions-eq0 c).After-load-recursions) (ne_eqb _ _ c.if-recursions-eq0.false)).whole _ _
    c.lower.ensures
