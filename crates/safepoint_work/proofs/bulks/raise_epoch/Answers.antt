use Rattle.std.proofs.Common.{◌+◌, ◌%◌, ◌∷◌, [], refl, sym}
use Rattle.core_world.specs.declared.word_id.WordId.TheVariants.{Prototype}
use Rattle.core_world.specs.RevocationRules.{write}
use Rattle.core_world.specs.Trees.RevocationSteps.{store_steps}
use Rattle.heap_table.proofs.StepsLeft.{AreLeft, all_left, left_as}
use Rattle.safepoint_work.specs.inner.RevokeParts.{raised_steps, renewed_steps}
use Rattle.safepoint_work.proofs.After.{made_as, due_as, left_after, same_runner}
use Rattle.safepoint_work.proofs.bulks.raise_epoch.Goals as goal
use Rattle.safepoint_work.proofs.bulks.raise_epoch.Goals.{After-store_one}

pub store_one-requires-clause-due : goal.store_one-requires-clause-due
store_one-requires-clause-due c =
    let a = c.args in
    due_as (λ _. renewed_steps a.heap.now.heap.shape a.pass.now.known.thread a.class a.call.now a.revocation.now ((a.epoch + 1) % 4))
    (all_left c.requires.heap c.requires.due)
    (λ i. store_steps a.call.now a.revocation.now (write (Prototype a.class) (c.encode-prototype.ensures i) ∷ []))

-- the next epoch is stored, and the thread is the same
stored : (c : After-store_one) → AreLeft c.args.heap.now c.args.call.now.task c.args.pass.now (raised_steps c.args.heap.now.heap.shape
    c.args.pass.now.known.thread c.args.class c.args.call.now c.args.revocation.now c.args.epoch) c.store_one.new.pass (renewed_steps
    c.args.heap.now.heap.shape c.store_one.new.pass.known.thread c.args.class c.args.call.now c.args.revocation.now ((c.args.epoch + 1) % 4))
stored c =
    let a = c.args in
    left_as (left_after (λ _. renewed_steps a.heap.now.heap.shape a.pass.now.known.thread a.class a.call.now a.revocation.now ((a.epoch + 1) % 4))
    (made_as c.store_one.ensures (λ i. store_steps a.call.now a.revocation.now (write (Prototype a.class) (c.encode-prototype.ensures i) ∷ []))) refl
    (all_left c.requires.heap c.requires.due))
    (λ i. renewed_steps a.heap.now.heap.shape (sym (same_runner c.store_one.ensures) i) a.class a.call.now a.revocation.now ((a.epoch + 1) % 4))

pub renew_class-requires-clause-due : goal.renew_class-requires-clause-due
renew_class-requires-clause-due c = (stored (goal.at.renew_class-requires-clause-due c).After-store_one).due

pub returns : goal.returns
returns c = (stored (goal.at.returns c).After-store_one).whole _ _ c.renew_class.ensures
