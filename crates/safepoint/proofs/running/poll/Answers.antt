use Rattle.std.proofs.Common.{refl}
use Rattle.heap_table.proofs.StepsLeft.{all_left, can_make, step_made, left_then, left_else, all_made}
use Rattle.safepoint.proofs.Forms.{asks}
use Rattle.safepoint.proofs.running.poll.Goals as goal

pub look_in_passing-word-requires-clause-can : goal.look_in_passing-word-requires-clause-can
look_in_passing-word-requires-clause-can c = can_make (all_left c.requires.heap c.requires.due) refl refl refl tt

pub returns-then-has_requester : goal.returns-then-has_requester
returns-then-has_requester c =
    all_made (left_then _ _ _ (step_made (all_left c.requires.heap c.requires.due) refl refl refl c.look_in_passing-word.ensures.stepped)
    (asks _ _ c.look_in_passing-word.ensures.form _ _ c.has_requester.ensures c.if-has_requester.true))

pub returns-else-has_requester : goal.returns-else-has_requester
returns-else-has_requester c =
    all_made (left_else _ _ _ (step_made (all_left c.requires.heap c.requires.due) refl refl refl c.look_in_passing-word.ensures.stepped)
    (asks _ _ c.look_in_passing-word.ensures.form _ _ c.has_requester.ensures c.if-has_requester.false))
