use Rattle.std.proofs.Common.{◌∷◌, [], refl}
use Rattle.core_world.specs.declared.word_id.WordId.TheVariants.{LastBulk}
use Rattle.core_world.specs.RevocationRules.{write}
use Rattle.core_world.specs.Trees.RevocationSteps.{store_steps, bulk_revoke_steps}
use Rattle.heap_table.proofs.StepsLeft.{AreLeft, all_left}
use Rattle.safepoint_work.specs.inner.RevokeParts.{neutral_steps}
use Rattle.safepoint_work.proofs.After.{made_as, due_as, left_after}
use Rattle.safepoint_work.proofs.bulks.bulk_revoke.Goals as goal
use Rattle.safepoint_work.proofs.bulks.bulk_revoke.Goals.{After-store_one}

pub store_one-requires-clause-due : goal.store_one-requires-clause-due
store_one-requires-clause-due c =
    let a = c.args in
    due_as (λ _. neutral_steps a.heap.now.heap.shape a.class a.call.now a.revocation.now) (all_left c.requires.heap c.requires.due)
    (λ i. store_steps a.call.now a.revocation.now (write (LastBulk a.class) (c.revocation.view_is i).now ∷ []))

-- the moment is stored
stored : (c : After-store_one) → AreLeft c.args.heap.now c.args.call.now.task c.args.pass.now
    (bulk_revoke_steps c.args.heap.now.heap.shape c.args.class c.args.call.now c.args.revocation.now)
    c.store_one.new.pass (neutral_steps c.args.heap.now.heap.shape c.args.class c.args.call.now c.args.revocation.now)
stored c =
    let a = c.args in
    left_after (λ _. neutral_steps a.heap.now.heap.shape a.class a.call.now a.revocation.now)
    (made_as c.store_one.ensures (λ i. store_steps a.call.now a.revocation.now (write (LastBulk a.class) (c.revocation.view_is i).now ∷ []))) refl
    (all_left c.requires.heap c.requires.due)

pub end_epochs-requires-clause-due : goal.end_epochs-requires-clause-due
end_epochs-requires-clause-due c = (stored (goal.at.end_epochs-requires-clause-due c).After-store_one).due

pub returns : goal.returns
returns c = (stored (goal.at.returns c).After-store_one).whole _ _ c.end_epochs.ensures
