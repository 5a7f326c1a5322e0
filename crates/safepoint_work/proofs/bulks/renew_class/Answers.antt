use Rattle.std.proofs.Common.{sym}
use Rattle.heap_table.proofs.StepsLeft.{AreLeft, all_left, left_as, part_of}
use Rattle.safepoint_work.specs.declared.visit.Visit.TheVariants.{Renew}
use Rattle.safepoint_work.specs.inner.RevokeParts.{renewed_steps, rebiased_steps}
use Rattle.safepoint_work.proofs.After.{left_after, same_runner}
use Rattle.safepoint_work.proofs.RevokeSteps.{walk_of}
use Rattle.safepoint_work.proofs.bulks.renew_class.Goals as goal
use Rattle.safepoint_work.proofs.bulks.renew_class.Goals.{After-walk}

pub walk-requires-clause-due : goal.walk-requires-clause-due
walk-requires-clause-due c =
    part_of (λ _. rebiased_steps c.args.call.now c.args.revocation.now c.args.epoch c.args.pass.now.known.thread)
    (all_left c.requires.heap c.requires.due)

-- the marks are renewed, and the thread is the same
renewed : (c : After-walk) → AreLeft c.args.heap.now c.args.call.now.task c.args.pass.now
    (renewed_steps c.args.heap.now.heap.shape c.args.pass.now.known.thread c.args.class c.args.call.now c.args.revocation.now c.args.epoch)
    c.walk.new.pass (rebiased_steps c.args.call.now c.args.revocation.now c.args.epoch c.walk.new.pass.known.thread)
renewed c =
    let a = c.args in
    left_as (left_after (λ _. rebiased_steps a.call.now a.revocation.now a.epoch a.pass.now.known.thread) c.walk.ensures
    (walk_of a.call.now a.revocation.now a.heap.now.heap.shape a.class (Renew a.epoch) a.heap.now.heap.shape.threads)
    (all_left c.requires.heap c.requires.due))
    (λ i. rebiased_steps a.call.now a.revocation.now a.epoch (sym (same_runner c.walk.ensures) i))

pub rebias-requires-clause-due : goal.rebias-requires-clause-due
rebias-requires-clause-due c = (renewed (goal.at.rebias-requires-clause-due c).After-walk).due

pub returns : goal.returns
returns c = (renewed (goal.at.returns c).After-walk).whole _ _ c.rebias.ensures
