use Rattle.std.proofs.Common.{◌∷◌, [], Some, refl, sym}
use Rattle.core_world.specs.declared.word_id.WordId.TheVariants.{LastBulk}
use Rattle.core_world.specs.RevocationRules.{write}
use Rattle.core_world.specs.Trees.RevocationSteps.{store_steps, bulk_rebias_steps}
use Rattle.heap_table.proofs.StepsLeft.{AreLeft, all_left, left_as}
use Rattle.safepoint_work.specs.inner.RevokeParts.{raised_steps}
use Rattle.safepoint_work.proofs.After.{made_as, due_as, left_after, same_runner}
use Rattle.safepoint_work.proofs.bulks.bulk_rebias.Goals as goal
use Rattle.safepoint_work.proofs.bulks.bulk_rebias.Goals.{After-store_one}

pub store_one-requires-clause-due : goal.store_one-requires-clause-due
store_one-requires-clause-due c =
    let a = c.args in
    due_as (λ _. raised_steps a.heap.now.heap.shape a.pass.now.known.thread a.class a.call.now a.revocation.now a.epoch)
    (all_left c.requires.heap c.requires.due)
    (λ i. store_steps a.call.now a.revocation.now (write (LastBulk a.class) (c.revocation.view_is i).now ∷ []))

-- the moment is stored, and the thread is the same
stored : (c : After-store_one) → AreLeft c.args.heap.now c.args.call.now.task c.args.pass.now (bulk_rebias_steps c.args.heap.now.heap.shape
    c.args.pass.now.known.thread c.args.class c.args.call.now c.args.revocation.now (Some c.args.epoch)) c.store_one.new.pass
    (raised_steps c.args.heap.now.heap.shape c.store_one.new.pass.known.thread c.args.class c.args.call.now c.args.revocation.now c.args.epoch)
stored c =
    let a = c.args in
    left_as (left_after (λ _. raised_steps a.heap.now.heap.shape a.pass.now.known.thread a.class a.call.now a.revocation.now a.epoch)
    (made_as c.store_one.ensures (λ i. store_steps a.call.now a.revocation.now (write (LastBulk a.class) (c.revocation.view_is i).now ∷ []))) refl
    (all_left c.requires.heap c.requires.due))
    (λ i. raised_steps a.heap.now.heap.shape (sym (same_runner c.store_one.ensures) i) a.class a.call.now a.revocation.now a.epoch)

pub raise_epoch-requires-clause-due : goal.raise_epoch-requires-clause-due
raise_epoch-requires-clause-due c = (stored (goal.at.raise_epoch-requires-clause-due c).After-store_one).due

pub returns : goal.returns
returns c = (stored (goal.at.returns c).After-store_one).whole _ _ c.raise_epoch.ensures
