use Rattle.std.proofs.Common.{◌≡◌, refl, sym, ap}
use Rattle.core_world.specs.Trees.Operations.{and_then}
use Rattle.core_world.specs.Trees.SafepointSteps.{safepoint_steps}
use Rattle.lock_runtime.specs.inner.LookParts.{reached_check}
use Rattle.lock_runtime.proofs.Looked.{run_thread}
use Rattle.lock_runtime.proofs.PartMade.{PartMade, first_due, next_due, next_made, last_made}
use Rattle.lock_runtime.proofs.Revoked.{first_safepoint}
use Rattle.lock_runtime.proofs.looking.check_asking.Goals as goal
use Rattle.lock_runtime.proofs.looking.check_asking.Goals.{After-safepoint}

pub safepoint-requires-clause-due : goal.safepoint-requires-clause-due
safepoint-requires-clause-due c =
    let a = c.args in
    first_due (λ progress. and_then progress (λ _. reached_check a.heap.now.heap.shape a.pass.now.known.thread a.context.now)) c.requires.due

-- the thread asked for its safepoint
asked : (c : After-safepoint) → let a = c.args in let t = a.pass.now.known.thread in
    PartMade a.heap.now a.pass.now c.safepoint.new.pass a.context.now.task (safepoint_steps a.context.now t a.requesting)
    (λ progress. and_then progress (λ _. reached_check a.heap.now.heap.shape t a.context.now)) c.safepoint.result
asked c =
    let a = c.args in
    record { due = c.requires.due; first = first_safepoint a.context.now a.pass.now.known.thread a.requesting; made = c.safepoint.ensures }

-- after it the thread is the same
reached : (c : After-safepoint) → let a = c.args in let s = a.heap.now.heap.shape in
    reached_check s a.pass.now.known.thread a.context.now ≡ reached_check s c.safepoint.new.pass.known.thread a.context.now
reached c =
    let a = c.args in
    let thread = run_thread a.heap.now _ a.pass.now c.safepoint.new.pass c.safepoint.result c.safepoint.ensures in
    ap (λ t. reached_check a.heap.now.heap.shape t a.context.now) (sym thread)

pub check_reached-requires-clause-due : goal.check_reached-requires-clause-due
check_reached-requires-clause-due c =
    let z = (goal.at.check_reached-requires-clause-due c).After-safepoint in next_due (asked z) c.in-Done.is (reached z)

pub returns-in-Done : goal.returns-in-Done
returns-in-Done c = let z = (goal.at.returns-in-Done c).After-safepoint in next_made (asked z) c.in-Done.is (reached z) c.check_reached.ensures

pub returns-in-Pending : goal.returns-in-Pending
returns-in-Pending c = last_made (asked (goal.at.returns-in-Pending c).After-safepoint) c.in-Pending.is refl
