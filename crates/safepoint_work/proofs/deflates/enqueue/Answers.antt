use Rattle.std.proofs.Common.{refl}
use Rattle.core_world.specs.declared.word_id.WordId.TheVariants.{Ring}
use Rattle.heap_table.specs.StepPlans.{store_plan}
use Rattle.heap_table.proofs.StepsLeft.{all_left, can_make, step_made}
use Rattle.safepoint_work.proofs.deflates.enqueue.Goals as goal

pub store-requires : goal.store-requires
store-requires c =
    can_make (all_left c.requires.heap c.requires.due)
    (λ i. store_plan c.args.call.now c.args.stage (Ring (c.ring_place-place.ensures i)) c.args.monitor) refl refl tt

pub store_and_keep-requires : goal.store_and_keep-requires
store_and_keep-requires c =
    can_make (step_made (all_left c.requires.heap c.requires.due)
    (λ i. store_plan c.args.call.now c.args.stage (Ring (c.ring_place-place.ensures i)) c.args.monitor) refl refl c.store.ensures) refl refl refl tt
