use Rattle.std.proofs.Common.{if◌then◌else◌, Some, false, refl, sym}
use Rattle.core_world.specs.Trees.RevocationSteps.{revoke_steps, take_bias_steps}
use Rattle.core_world.specs.Trees.StepTree.{done}
use Rattle.heap_table.proofs.StepsLeft.{AreLeft, all_left, left_as, left_then, left_else, all_made}
use Rattle.safepoint_work.specs.inner.RevokeParts.{rebiased_steps}
use Rattle.safepoint_work.proofs.After.{made_as, due_as, left_after, same_runner}
use Rattle.safepoint_work.proofs.bulks.rebias.Goals as goal
use Rattle.safepoint_work.proofs.bulks.rebias.Goals.{After-revoke}

pub revoke-requires-clause-due : goal.revoke-requires-clause-due
revoke-requires-clause-due c =
    let a = c.args in
    let b = a.revocation.now in
    due_as (λ _. if b.rebias then take_bias_steps a.call.now b (Some a.epoch) a.pass.now.known.thread else done false)
    (all_left c.requires.heap c.requires.due) (λ i. revoke_steps a.call.now b (c.revocation.view_is i).object (c.revocation.view_is i).rebias)

-- the bias is revoked, and the thread is the same
revoked : (c : After-revoke) → AreLeft c.args.heap.now c.args.call.now.task c.args.pass.now
    (rebiased_steps c.args.call.now c.args.revocation.now c.args.epoch c.args.pass.now.known.thread) c.revoke.new.pass (if c.revocation.inside.rebias
    then take_bias_steps c.args.call.now c.args.revocation.now (Some c.args.epoch) c.revoke.new.pass.known.thread else done false)
revoked c =
    let a = c.args in
    let b = a.revocation.now in
    let same = c.revocation.view_is in
    left_as (left_after (λ _. if b.rebias then take_bias_steps a.call.now b (Some a.epoch) a.pass.now.known.thread else done false)
    (made_as c.revoke.ensures (λ i. revoke_steps a.call.now b (same i).object (same i).rebias)) refl (all_left c.requires.heap c.requires.due))
    (λ i. if (sym same i).rebias then take_bias_steps a.call.now b (Some a.epoch) (sym (same_runner c.revoke.ensures) i) else done false)

pub take_bias-requires-clause-due : goal.take_bias-requires-clause-due
take_bias-requires-clause-due c = (left_then _ _ _ (revoked (goal.at.take_bias-requires-clause-due c).After-revoke) c.if-revocation.true).due

pub returns-then-revocation : goal.returns-then-revocation
returns-then-revocation c =
    (left_then _ _ _ (revoked (goal.at.returns-then-revocation c).After-revoke) c.if-revocation.true).whole _ _ c.take_bias.ensures

pub returns : goal.returns
returns c = all_made (left_else _ _ _ (revoked (goal.at.returns c).After-revoke) c.if-revocation.false)
