use Rattle.std.proofs.Common.{sym, ◌∙◌, eq-eqb, ne_eqb}
use Rattle.heap_table.proofs.StepsLeft.{all_left, left_then, left_else, all_made}
use Rattle.bias_lock.proofs.enters.enter_valid.Goals as goal

pub log_biased_enter-requires-clause-due : goal.log_biased_enter-requires-clause-due
log_biased_enter-requires-clause-due c =
    (left_then _ _ _ (all_left c.requires.heap c.requires.due) (eq-eqb _ _ (c.if-thread-own.true ∙ c.thread-own.ensures.same))).due

pub returns-then-thread-own : goal.returns-then-thread-own
returns-then-thread-own c =
    (left_then _ _ _ (all_left c.requires.heap c.requires.due) (eq-eqb _ _ (c.if-thread-own.true ∙ c.thread-own.ensures.same))).whole _ _
    c.log_biased_enter.ensures

pub returns : goal.returns
returns c = all_made (left_else _ _ _ (all_left c.requires.heap c.requires.due)
    (ne_eqb _ _ (λ same. c.if-thread-own.false (same ∙ sym c.thread-own.ensures.same))))
