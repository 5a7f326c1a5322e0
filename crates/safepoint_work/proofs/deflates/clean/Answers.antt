use Rattle.std.proofs.Common.{refl}
use Rattle.heap_table.proofs.StepsLeft.{all_left, can_make, step_made}
use Rattle.safepoint_work.proofs.deflates.clean.Goals as goal

pub store-requires : goal.store-requires
store-requires c = can_make (all_left c.requires.heap c.requires.due) refl refl refl tt

pub store-requires-2 : goal.store-requires-2
store-requires-2 c = can_make (step_made (all_left c.requires.heap c.requires.due) refl refl refl c.store.ensures) refl refl refl tt

pub store-requires-3 : goal.store-requires-3
store-requires-3 c =
    let one = step_made (all_left c.requires.heap c.requires.due) refl refl refl c.store.ensures in
    can_make (step_made one refl refl refl c.store-2.ensures) refl refl refl tt

pub store-requires-4 : goal.store-requires-4
store-requires-4 c =
    let one = step_made (all_left c.requires.heap c.requires.due) refl refl refl c.store.ensures in
    can_make (step_made (step_made one refl refl refl c.store-2.ensures) refl refl refl c.store-3.ensures) refl refl refl tt
