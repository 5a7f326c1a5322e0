use Rattle.std.proofs.Common.{false, sym}
use Rattle.core_world.specs.Trees.RevocationSteps.{revoke_steps}
use Rattle.heap_table.proofs.StepsLeft.{AreLeft, all_left, left_as, part_of}
use Rattle.safepoint_work.specs.declared.visit.Visit.TheVariants.{Revoke}
use Rattle.safepoint_work.specs.inner.RevokeParts.{unbiased_steps}
use Rattle.safepoint_work.proofs.After.{left_after}
use Rattle.safepoint_work.proofs.RevokeSteps.{walk_of}
use Rattle.safepoint_work.proofs.bulks.unbias_class.Goals as goal
use Rattle.safepoint_work.proofs.bulks.unbias_class.Goals.{After-revocation}

pub walk-requires-clause-due : goal.walk-requires-clause-due
walk-requires-clause-due c =
    part_of (λ _. revoke_steps c.args.call.now c.args.revocation.now c.args.revocation.now.object false) (all_left c.requires.heap c.requires.due)

-- the objects that records name are revoked, and then this one
walked : (c : After-revocation) → AreLeft c.args.heap.now c.args.call.now.task c.args.pass.now
    (unbiased_steps c.args.heap.now.heap.shape c.args.class c.args.call.now c.args.revocation.now)
    c.walk.new.pass (revoke_steps c.args.call.now c.args.revocation.now c.revocation.inside.object false)
walked c =
    let a = c.args in
    left_as (left_after (λ _. revoke_steps a.call.now a.revocation.now a.revocation.now.object false) c.walk.ensures
    (walk_of a.call.now a.revocation.now a.heap.now.heap.shape a.class Revoke a.heap.now.heap.shape.threads)
    (all_left c.requires.heap c.requires.due))
    (λ i. revoke_steps a.call.now a.revocation.now (sym c.revocation.view_is i).object false)

pub revoke-requires-clause-due : goal.revoke-requires-clause-due
revoke-requires-clause-due c = (walked (goal.at.revoke-requires-clause-due c).After-revocation).due

pub returns : goal.returns
returns c = (walked (goal.at.returns c).After-revocation).whole _ _ c.revoke.ensures
