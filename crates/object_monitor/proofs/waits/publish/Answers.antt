use Rattle.std.proofs.Common.{◌+◌, refl}
use Rattle.core_world.specs.declared.word_id.WordId.TheVariants.{Length}
use Rattle.core_world.specs.declared.stage.Stage.TheVariants.{Settled}
use Rattle.heap_table.specs.StepPlans.{log_store_plan}
use Rattle.heap_table.proofs.StepsLeft.{all_left, can_make}
use Rattle.object_monitor.proofs.waits.publish.Goals as goal

pub log_store-requires : goal.log_store-requires
log_store-requires c = can_make (all_left c.requires.heap c.requires.due)
    (λ i. log_store_plan c.args.call.now Settled (Length (c.thread.ensures.same i)) (c.length-length.ensures.same i + 1) c.args.entry)
    refl refl c.requires.room
