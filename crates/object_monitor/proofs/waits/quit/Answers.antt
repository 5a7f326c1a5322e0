use Rattle.std.proofs.Common.{refl, ap}
use Rattle.core_world.specs.declared.word_id.WordId.TheVariants.{Owner}
use Rattle.core_world.specs.declared.stage.Stage.TheVariants.{Settled}
use Rattle.heap_table.specs.StepPlans.{store_plan}
use Rattle.heap_table.proofs.StepsLeft.{all_left, can_make, step_made}
use Rattle.object_monitor.proofs.waits.quit.Goals as goal

pub store-requires : goal.store-requires
store-requires c = can_make (all_left c.requires.heap c.requires.due) refl refl refl tt

pub store-requires-2 : goal.store-requires-2
store-requires-2 c = can_make (step_made (all_left c.requires.heap c.requires.due) refl refl refl c.store.ensures)
    (ap (store_plan c.args.call.now Settled (Owner c.args.monitor)) c.encode_owner-free.ensures) refl refl tt
