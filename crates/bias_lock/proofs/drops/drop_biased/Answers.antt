use Rattle.std.proofs.Common.{ℕ, Option, refl, sym, ap}
use Rattle.core_world.specs.Trees.BiasSteps.{bias_drop_by}
use Rattle.bias_lock.specs.inner.Parts.{prototype_drop}
use Rattle.heap_table.proofs.StepsLeft.{AreLeft, all_left, can_make, step_made, left_as}
use Rattle.bias_lock.proofs.drops.drop_biased.Goals as goal
use Rattle.bias_lock.proofs.drops.drop_biased.Goals.{After-class_epoch-epoch}

pub load-prototype-requires : goal.load-prototype-requires
load-prototype-requires c = can_make (all_left c.requires.heap c.requires.due) refl refl refl tt

loaded : (c : After-class_epoch-epoch) → AreLeft c.args.heap.now c.args.call.now.task c.args.pass.now
    (prototype_drop c.args.call.now c.args.class c.args.object c.args.mark) c.load-prototype.new.pass
    (bias_drop_by c.class_epoch-epoch.result c.args.call.now c.args.object c.args.mark c.load-prototype.result)
loaded c = left_as (step_made (all_left c.requires.heap c.requires.due) refl refl refl c.load-prototype.ensures)
    (ap (λ (x : Option ℕ). bias_drop_by x c.args.call.now c.args.object c.args.mark c.load-prototype.result) (sym c.class_epoch-epoch.ensures))

pub drop_by-requires-clause-due : goal.drop_by-requires-clause-due
drop_by-requires-clause-due c = (loaded (goal.at.drop_by-requires-clause-due c).After-class_epoch-epoch).due

pub returns : goal.returns
returns c = (loaded (goal.at.returns c).After-class_epoch-epoch).whole _ _ c.drop_by.ensures
