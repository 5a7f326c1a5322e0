use Rattle.std.proofs.Common.{◌≡◌, ℕ, refl, sym, ap, ◌∙◌}
use Rattle.core_world.specs.declared.answer.StackOut.TheVariants.{Monitor}
use Rattle.core_world.specs.Threads.ThreadView.{Local, local_of}
use Rattle.core_world.specs.Trees.LockSteps.{stack_exit_steps}
use Rattle.core_world.specs.Trees.MonitorSteps.{monitor_exit_steps}
use Rattle.core_world.specs.Trees.Operations.{exit_at}
use Rattle.core_world.specs.Trees.Plans.{done_with, top_place}
use Rattle.core_world.specs.Trees.StepTree.{◌>>=◌}
use Rattle.lock_runtime.proofs.LeftNothing.{first_out, left_nothing}
use Rattle.lock_runtime.proofs.PartMade.{PartMade, first_due, next_due, next_made, last_made, then_ends, room_after}
use Rattle.lock_runtime.proofs.leaving.leave_unbiased.Goals as goal
use Rattle.lock_runtime.proofs.leaving.leave_unbiased.Goals.{After-stack_exit}

pub stack_exit-requires-clause-due : goal.stack_exit-requires-clause-due
stack_exit-requires-clause-due c =
    let a = c.args in first_due (λ out. exit_at out a.context.now (local_of a.pass.now.known) a.object) c.requires.due

-- the exit by the lock record
left : (c : After-stack_exit) → let a = c.args in let l = local_of a.pass.now.known in
    PartMade a.heap.now a.pass.now c.stack_exit.new.pass a.context.now.task (stack_exit_steps a.context.now l a.object)
    (λ out. exit_at out a.context.now l a.object) c.stack_exit.result
left c =
    let a = c.args in
    record { due = c.requires.due; first = first_out a.context.now (local_of a.pass.now.known) a.object; made = c.stack_exit.ensures }

-- which has left nothing where it found a monitor
same : (c : After-stack_exit) (m : ℕ) → c.stack_exit.result ≡ Monitor m → local_of c.stack_exit.new.pass.known ≡ local_of c.args.pass.now.known
same c m is =
    let a = c.args in
    left_nothing a.heap.now a.context.now (local_of a.pass.now.known) a.object m a.pass.now c.stack_exit.new.pass (rw is at c.stack_exit.ensures)

-- so the monitor is left as the tree says
by_monitor : (c : After-stack_exit) (m : ℕ) → c.stack_exit.result ≡ Monitor m → let a = c.args in
    exit_at (Monitor m) a.context.now (local_of a.pass.now.known) a.object
    ≡ (monitor_exit_steps a.context.now (local_of c.stack_exit.new.pass.known) a.object m >>= (λ _. done_with (tt {0})))
by_monitor c m is = ap (λ (l : Local). exit_at (Monitor m) c.args.context.now l c.args.object) (sym (same c m is))

pub monitor_exit-requires-clause-place : goal.monitor_exit-requires-clause-place
monitor_exit-requires-clause-place c =
    let z = (goal.at.monitor_exit-requires-clause-place c).After-stack_exit in
    c.requires.place ∙ ap (λ (l : Local). top_place c.args.object l.holds) (sym (same z _ c.in-Monitor.is))

pub monitor_exit-requires-clause-due : goal.monitor_exit-requires-clause-due
monitor_exit-requires-clause-due c =
    let z = (goal.at.monitor_exit-requires-clause-due c).After-stack_exit in
    first_due (λ _. done_with (tt {0})) (next_due (left z) c.in-Monitor.is (by_monitor z _ c.in-Monitor.is))

pub monitor_exit-requires-clause-room : goal.monitor_exit-requires-clause-room
monitor_exit-requires-clause-room c =
    let z = (goal.at.monitor_exit-requires-clause-room c).After-stack_exit in room_after (left z) (same z _ c.in-Monitor.is) c.requires.room

pub returns-in-Left : goal.returns-in-Left
returns-in-Left c = last_made (left (goal.at.returns-in-Left c).After-stack_exit) c.in-Left.is refl

pub returns-in-Not : goal.returns-in-Not
returns-in-Not c = last_made (left (goal.at.returns-in-Not c).After-stack_exit) c.in-Not.is refl

pub returns-in-Monitor : goal.returns-in-Monitor
returns-in-Monitor c =
    let z = (goal.at.returns-in-Monitor c).After-stack_exit in
    next_made (left z) c.in-Monitor.is (by_monitor z _ c.in-Monitor.is) (then_ends (λ _. done_with (tt {0})) refl c.monitor_exit.ensures)
