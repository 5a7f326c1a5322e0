use Rattle.std.proofs.Common.{◌≡◌, refl, sym, ap, ◌∙◌, subst}
use Rattle.core_world.specs.Threads.ThreadView.{Local}
use Rattle.core_world.specs.Threads.Stages.{Revocation}
use Rattle.core_world.specs.Trees.BiasSteps.{stage_after}
use Rattle.core_world.specs.Trees.RevocationSteps.{revoke_at_safepoint_steps}
use Rattle.heap_table.specs.Parts.{IsDueOn, HasMadeSteps}
use Rattle.lock_runtime.specs.inner.Parts.{ended_revocation}
use Rattle.lock_runtime.proofs.Asides.{at_safepoint}
use Rattle.lock_runtime.proofs.PartMade.{PartMade, first_due, next_due, next_made, alike_after}
use Rattle.lock_runtime.proofs.revoking.revoke_reached.Goals as goal
use Rattle.lock_runtime.proofs.revoking.revoke_reached.Goals.{After-stage_after-stage}

pub revoke_at_safepoint-outcome-requires-clause-due : goal.revoke_at_safepoint-outcome-requires-clause-due
revoke_at_safepoint-outcome-requires-clause-due c =
    let a = c.args in
    let s = a.heap.now.heap.shape in
    let t = a.pass.now.known.thread in
    subst (λ (x : Revocation). IsDueOn a.heap.now a.pass.now a.context.now.task (revoke_at_safepoint_steps s t a.context.now x)) (sym c.revocation.view_is)
    (first_due (λ outcome. ended_revocation s t a.context.now (stage_after outcome.took a.revocation.now.object) outcome.took) c.requires.due)

-- the bias is revoked
revoked : (c : After-stage_after-stage) → let a = c.args in let s = a.heap.now.heap.shape in let t = a.pass.now.known.thread in
    PartMade a.heap.now a.pass.now c.revoke_at_safepoint-outcome.new.pass a.context.now.task
    (revoke_at_safepoint_steps s t a.context.now a.revocation.now)
    (λ outcome. ended_revocation s t a.context.now (stage_after outcome.took a.revocation.now.object) outcome.took) c.revoke_at_safepoint-outcome.result
revoked c =
    let a = c.args in
    let steps = λ (x : Revocation). revoke_at_safepoint_steps a.heap.now.heap.shape a.pass.now.known.thread a.context.now x in
    record {
      due = c.requires.due;
      first = refl;
      made = subst (λ (x : Revocation). HasMadeSteps a.heap.now (steps x) a.pass.now c.revoke_at_safepoint-outcome.new.pass
          c.revoke_at_safepoint-outcome.result) c.revocation.view_is c.revoke_at_safepoint-outcome.ensures;
    }

-- the end of the revocation, as the code calls it
ending : (c : After-stage_after-stage) → let a = c.args in let s = a.heap.now.heap.shape in let took = c.revoke_at_safepoint-outcome.result.took in
    ended_revocation s a.pass.now.known.thread a.context.now (stage_after took a.revocation.now.object) took
    ≡ ended_revocation s c.revoke_at_safepoint-outcome.new.pass.known.thread a.context.now c.stage_after-stage.result c.outcome.inside.took
ending c =
    let a = c.args in
    let s = a.heap.now.heap.shape in
    let alike = alike_after (revoked c) (at_safepoint a.context.now a.revocation.now s a.pass.now.known.thread) in
    let thread = ap (λ (x : Local). x.thread) (sym alike.local) in
    let stage = c.stage_after-stage.ensures ∙ (λ i. stage_after (c.outcome.view_is i).took (c.revocation.view_is i).object) in
    λ i. ended_revocation s (thread i) a.context.now (sym stage i) (sym c.outcome.view_is i).took

pub end_revocation-requires-clause-due : goal.end_revocation-requires-clause-due
end_revocation-requires-clause-due c =
    let z = (goal.at.end_revocation-requires-clause-due c).After-stage_after-stage in next_due (revoked z) refl (ending z)

pub returns : goal.returns
returns c = let z = (goal.at.returns c).After-stage_after-stage in next_made (revoked z) refl (ending z) c.end_revocation.ensures
