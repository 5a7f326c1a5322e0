use Rattle.std.proofs.Common.{refl, ap, ◌∙◌}
use Rattle.core_world.specs.declared.act.Act.TheVariants.{FetchAnd}
use Rattle.core_world.specs.declared.word_id.WordId.TheVariants.{Safepoint}
use Rattle.core_world.specs.Trees.Plans.{quiet_plan}
use Rattle.core_world.specs.Trees.SafepointSteps.{all_but, publish_log_plan}
use Rattle.heap_table.proofs.StepsLeft.{all_left, can_make, step_made}
use Rattle.safepoint.proofs.running.stop.Goals as goal

pub store-requires : goal.store-requires
store-requires c =
    can_make (all_left c.requires.heap c.requires.due)
    (λ i. publish_log_plan c.args.call.now (c.thread-thread.ensures.same i) (c.length-length.ensures.same i)) refl refl tt

pub mask-requires : goal.mask-requires
mask-requires c =
    let bits = c.all_but.ensures ∙ ap all_but c.thread-thread.ensures.same in
    can_make (step_made (all_left c.requires.heap c.requires.due)
    (λ i. publish_log_plan c.args.call.now (c.thread-thread.ensures.same i) (c.length-length.ensures.same i)) refl refl c.store.ensures)
    (λ i. quiet_plan c.args.call.now Safepoint (FetchAnd (bits i))) refl refl tt
