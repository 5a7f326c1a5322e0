use Rattle.std.proofs.Common.{refl}
use Rattle.heap_table.proofs.StepsLeft.{all_left, can_make, step_made, left_then, left_else, all_made}
use Rattle.safepoint.proofs.Forms.{stands}
use Rattle.safepoint.proofs.asking.reached.Goals as goal

pub look-word-requires : goal.look-word-requires
look-word-requires c = can_make (all_left c.requires.heap c.requires.due) refl refl refl tt

pub returns-then-is_still : goal.returns-then-is_still
returns-then-is_still c =
    all_made (left_then _ _ _ (step_made (all_left c.requires.heap c.requires.due) refl refl refl c.look-word.ensures.stepped)
    (stands _ _ c.look-word.ensures.form _ _ c.is_still.ensures c.if-is_still.true))

pub returns-else-is_still : goal.returns-else-is_still
returns-else-is_still c =
    all_made (left_else _ _ _ (step_made (all_left c.requires.heap c.requires.due) refl refl refl c.look-word.ensures.stepped)
    (stands _ _ c.look-word.ensures.form _ _ c.is_still.ensures c.if-is_still.false))
