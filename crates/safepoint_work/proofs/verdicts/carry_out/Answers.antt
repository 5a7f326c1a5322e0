use Rattle.std.proofs.Common.{false, Some, refl, ap}
use Rattle.core_world.specs.Trees.RevocationSteps.{revoke_steps, bulk_revoke_steps, verdict_steps}
use Rattle.core_world.specs.Trees.StepTree.{done, ◌>>=◌}
use Rattle.heap_table.proofs.StepsLeft.{AreLeft, all_left, left_as, part_of, last_made}
use Rattle.safepoint_work.proofs.After.{made_as, due_as}
use Rattle.safepoint_work.proofs.verdicts.carry_out.Goals as goal
use Rattle.safepoint_work.proofs.verdicts.carry_out.Goals.{In-Single, In-BulkRevoke}

-- what is left by the verdict
single : (c : In-Single) → AreLeft c.args.heap.now c.args.call.now.task c.args.pass.now
    (verdict_steps c.args.heap.now.heap.shape c.args.pass.now.known.thread c.args.class c.args.call.now c.args.revocation.now (Some c.args.epoch)
    c.args.verdict) c.args.pass.now (revoke_steps c.args.call.now c.args.revocation.now c.args.revocation.now.object false >>= (λ _. done false))
single c =
    let a = c.args in
    left_as (all_left c.requires.heap c.requires.due)
    (ap (verdict_steps a.heap.now.heap.shape a.pass.now.known.thread a.class a.call.now a.revocation.now (Some a.epoch)) c.in-Single.is)

bulk : (c : In-BulkRevoke) → AreLeft c.args.heap.now c.args.call.now.task c.args.pass.now
    (verdict_steps c.args.heap.now.heap.shape c.args.pass.now.known.thread c.args.class c.args.call.now c.args.revocation.now (Some c.args.epoch)
    c.args.verdict) c.args.pass.now
    (bulk_revoke_steps c.args.heap.now.heap.shape c.args.class c.args.call.now c.args.revocation.now >>= (λ _. done false))
bulk c =
    let a = c.args in
    left_as (all_left c.requires.heap c.requires.due)
    (ap (verdict_steps a.heap.now.heap.shape a.pass.now.known.thread a.class a.call.now a.revocation.now (Some a.epoch)) c.in-BulkRevoke.is)

pub revoke-requires-clause-due : goal.revoke-requires-clause-due
revoke-requires-clause-due c =
    due_as (λ _. done false) (single (goal.at.revoke-requires-clause-due c).In-Single)
    (λ i. revoke_steps c.args.call.now c.args.revocation.now (c.revocation.view_is i).object false)

pub returns-in-Single : goal.returns-in-Single
returns-in-Single c =
    last_made (λ _. done false)
    (made_as c.revoke.ensures (λ i. revoke_steps c.args.call.now c.args.revocation.now (c.revocation.view_is i).object false)) refl
    (single (goal.at.returns-in-Single c).In-Single)

pub bulk_revoke-requires-clause-due : goal.bulk_revoke-requires-clause-due
bulk_revoke-requires-clause-due c = part_of (λ _. done false) (bulk (goal.at.bulk_revoke-requires-clause-due c).In-BulkRevoke)

pub returns-in-BulkRevoke : goal.returns-in-BulkRevoke
returns-in-BulkRevoke c = last_made (λ _. done false) c.bulk_revoke.ensures refl (bulk (goal.at.returns-in-BulkRevoke c).In-BulkRevoke)
