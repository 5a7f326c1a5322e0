use Rattle.std.proofs.Common.{refl}
use Rattle.core_world.specs.Trees.Operations.{and_then, revocation_steps}
use Rattle.core_world.specs.Trees.Plans.{done_with}
use Rattle.lock_runtime.proofs.PartMade.{PartMade, first_due, last_made}
use Rattle.lock_runtime.proofs.Revoked.{first_revocation}
use Rattle.lock_runtime.proofs.revoking.revoked.Goals as goal
use Rattle.lock_runtime.proofs.revoking.revoked.Goals.{After-revocation}

pub revocation-requires-clause-due : goal.revocation-requires-clause-due
revocation-requires-clause-due c = first_due (λ progress. and_then progress (λ _. done_with tt)) c.requires.due

-- the revocation
made : (c : After-revocation) → let a = c.args in let s = a.heap.now.heap.shape in let t = a.pass.now.known.thread in
    PartMade a.heap.now a.pass.now c.revocation.new.pass a.context.now.task (revocation_steps s t a.requesting a.context.now a.bias.now)
    (λ progress. and_then progress (λ _. done_with (tt {0}))) c.revocation.result
made c =
    let a = c.args in
    record {
      due = c.requires.due;
      first = first_revocation a.heap.now.heap.shape a.pass.now.known.thread a.requesting a.context.now a.bias.now;
      made = c.revocation.ensures;
    }

pub returns-in-Done : goal.returns-in-Done
returns-in-Done c = last_made (made (goal.at.returns-in-Done c).After-revocation) c.in-Done.is refl

pub returns-in-Pending : goal.returns-in-Pending
returns-in-Pending c = last_made (made (goal.at.returns-in-Pending c).After-revocation) c.in-Pending.is refl
