use Rattle.std.proofs.Common.{◌≡◌, refl, sym, ap}
use Rattle.core_world.specs.Threads.ThreadView.{Local}
use Rattle.core_world.specs.Trees.Operations.{and_then}
use Rattle.core_world.specs.Trees.SafepointSteps.{safepoint_steps}
use Rattle.lock_runtime.specs.inner.Parts.{reached_revocation}
use Rattle.lock_runtime.proofs.Asides.{safepoint_aside}
use Rattle.lock_runtime.proofs.PartMade.{PartMade, first_due, next_due, next_made, last_made, alike_after}
use Rattle.lock_runtime.proofs.Revoked.{first_safepoint}
use Rattle.lock_runtime.proofs.revoking.revocation.Goals as goal
use Rattle.lock_runtime.proofs.revoking.revocation.Goals.{After-safepoint}

pub safepoint-requires-clause-due : goal.safepoint-requires-clause-due
safepoint-requires-clause-due c =
    let a = c.args in
    let t = a.pass.now.known.thread in
    first_due (λ progress. and_then progress (λ _. reached_revocation a.heap.now.heap.shape t a.context.now a.revocation.now)) c.requires.due

-- the thread asked for its safepoint
asked : (c : After-safepoint) → let a = c.args in let h = a.heap.now in let t = a.pass.now.known.thread in
    PartMade h a.pass.now c.safepoint.new.pass a.context.now.task (safepoint_steps a.context.now t a.requesting)
    (λ progress. and_then progress (λ _. reached_revocation h.heap.shape t a.context.now a.revocation.now)) c.safepoint.result
asked c =
    let a = c.args in
    record { due = c.requires.due; first = first_safepoint a.context.now a.pass.now.known.thread a.requesting; made = c.safepoint.ensures }

-- after it the thread is the same
reached : (c : After-safepoint) → let a = c.args in let s = a.heap.now.heap.shape in
    reached_revocation s a.pass.now.known.thread a.context.now a.revocation.now
    ≡ reached_revocation s c.safepoint.new.pass.known.thread a.context.now a.revocation.now
reached c =
    let a = c.args in
    let alike = alike_after (asked c) (safepoint_aside a.context.now a.pass.now.known.thread a.requesting) in
    ap (λ (l : Local). reached_revocation a.heap.now.heap.shape l.thread a.context.now a.revocation.now) (sym alike.local)

pub revoke_reached-requires-clause-due : goal.revoke_reached-requires-clause-due
revoke_reached-requires-clause-due c =
    let z = (goal.at.revoke_reached-requires-clause-due c).After-safepoint in next_due (asked z) c.in-Done.is (reached z)

pub returns-in-Done : goal.returns-in-Done
returns-in-Done c = let z = (goal.at.returns-in-Done c).After-safepoint in next_made (asked z) c.in-Done.is (reached z) c.revoke_reached.ensures

pub returns-in-Pending : goal.returns-in-Pending
returns-in-Pending c = last_made (asked (goal.at.returns-in-Pending c).After-safepoint) c.in-Pending.is refl
