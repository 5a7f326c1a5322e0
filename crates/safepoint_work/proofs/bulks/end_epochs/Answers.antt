use Rattle.std.proofs.Common.{refl}
use Rattle.heap_table.proofs.StepsLeft.{AreLeft, all_left, part_of}
use Rattle.safepoint_work.specs.inner.RevokeParts.{neutral_steps, unbiased_steps}
use Rattle.safepoint_work.proofs.After.{left_after}
use Rattle.safepoint_work.proofs.bulks.end_epochs.Goals as goal
use Rattle.safepoint_work.proofs.bulks.end_epochs.Goals.{After-store_one}

pub store_one-requires-clause-due : goal.store_one-requires-clause-due
store_one-requires-clause-due c =
    part_of (λ _. unbiased_steps c.args.heap.now.heap.shape c.args.class c.args.call.now c.args.revocation.now)
    (all_left c.requires.heap c.requires.due)

-- the prototype is stored
stored : (c : After-store_one) → AreLeft c.args.heap.now c.args.call.now.task c.args.pass.now
    (neutral_steps c.args.heap.now.heap.shape c.args.class c.args.call.now c.args.revocation.now)
    c.store_one.new.pass (unbiased_steps c.args.heap.now.heap.shape c.args.class c.args.call.now c.args.revocation.now)
stored c = left_after (λ _. unbiased_steps c.args.heap.now.heap.shape c.args.class c.args.call.now c.args.revocation.now)
    c.store_one.ensures refl (all_left c.requires.heap c.requires.due)

pub unbias_class-requires-clause-due : goal.unbias_class-requires-clause-due
unbias_class-requires-clause-due c = (stored (goal.at.unbias_class-requires-clause-due c).After-store_one).due

pub returns : goal.returns
returns c = (stored (goal.at.returns c).After-store_one).whole _ _ c.unbias_class.ensures
