use Rattle.std.proofs.Common.{refl}
use Rattle.heap_table.specs.StepPlans.{store_plan}
use Rattle.heap_table.proofs.StepsLeft.{all_left, can_make, step_made, all_made}
use Rattle.safepoint_work.proofs.steps.store_one.Goals as goal

pub store-requires : goal.store-requires
store-requires c =
    can_make (all_left c.requires.heap c.requires.due) (λ i. store_plan c.args.call.now (c.stage.ensures i) c.args.at c.args.word) refl refl tt

pub returns : goal.returns
returns c = all_made (step_made (all_left c.requires.heap c.requires.due)
    (λ i. store_plan c.args.call.now (c.stage.ensures i) c.args.at c.args.word) refl refl c.store.ensures)
