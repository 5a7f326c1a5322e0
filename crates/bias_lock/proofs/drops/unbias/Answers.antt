use Rattle.std.proofs.Common.{refl, eq-eqb, ne_eqb}
use Rattle.heap_table.proofs.StepsLeft.{all_left, can_make, step_made, left_then, left_else, all_made}
use Rattle.bias_lock.proofs.drops.unbias.Goals as goal

pub exchange-found-requires : goal.exchange-found-requires
exchange-found-requires c = can_make (all_left c.requires.heap c.requires.due) refl refl refl tt

pub returns-then-found-mark : goal.returns-then-found-mark
returns-then-found-mark c =
    all_made (left_else _ _ _ (step_made (all_left c.requires.heap c.requires.due) refl refl refl c.exchange-found.ensures) (ne_eqb _ _ c.if-found-mark.true))

pub returns : goal.returns
returns c =
    all_made (left_then _ _ _ (step_made (all_left c.requires.heap c.requires.due) refl refl refl c.exchange-found.ensures) (eq-eqb _ _ c.if-found-mark.false))
