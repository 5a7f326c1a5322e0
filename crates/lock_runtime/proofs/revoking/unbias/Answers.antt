use Rattle.std.proofs.Common.{sym, ◌∙◌}
use Rattle.heap_table.proofs.StepsLeft.{all_left, left_then, left_else}
use Rattle.lock_runtime.proofs.revoking.unbias.Goals as goal

pub revoked-requires-clause-due : goal.revoked-requires-clause-due
revoked-requires-clause-due c = (left_then _ _ _ (all_left c.requires.heap c.requires.due) (sym c.requesting.ensures ∙ c.if-requesting.true)).due

pub unbias_first-requires-clause-due : goal.unbias_first-requires-clause-due
unbias_first-requires-clause-due c = (left_else _ _ _ (all_left c.requires.heap c.requires.due) (sym c.requesting.ensures ∙ c.if-requesting.false)).due

pub returns-then-requesting : goal.returns-then-requesting
returns-then-requesting c =
    (left_then _ _ _ (all_left c.requires.heap c.requires.due) (sym c.requesting.ensures ∙ c.if-requesting.true)).whole _ _ c.revoked.ensures

pub returns : goal.returns
returns c = (left_else _ _ _ (all_left c.requires.heap c.requires.due) (sym c.requesting.ensures ∙ c.if-requesting.false)).whole _ _ c.unbias_first.ensures
