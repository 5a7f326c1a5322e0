use Rattle.std.proofs.Common.{refl, ◌∙◌, eq-eqb}
use Rattle.core_world.specs.declared.word_id.WordId.TheVariants.{Safepoint}
use Rattle.core_world.specs.Trees.Plans.{swap}
use Rattle.core_world.specs.Trees.SafepointSteps.{requested_by}
use Rattle.heap_table.proofs.StepsLeft.{all_left, can_make, step_made, left_then, all_made}
use Rattle.safepoint.proofs.Forms.{in_range}
use Rattle.safepoint.proofs.asking.request_from.Goals as goal

pub requested_by-left-requires-clause-range : goal.requested_by-left-requires-clause-range
requested_by-left-requires-clause-range c = in_range _ _ c.requires.form

pub exchange-found-requires : goal.exchange-found-requires
exchange-found-requires c =
    let left = c.requested_by-left.ensures ∙ λ i. requested_by (c.requires.form i) (c.thread.ensures.same i) in
    can_make (all_left c.requires.heap c.requires.due) (λ i. swap c.args.call.now Safepoint c.args.word (left i)) refl refl tt

pub returns-then-found-word : goal.returns-then-found-word
returns-then-found-word c =
    let left = c.requested_by-left.ensures ∙ λ i. requested_by (c.requires.form i) (c.thread.ensures.same i) in
    all_made (left_then _ _ _ (step_made (all_left c.requires.heap c.requires.due)
    (λ i. swap c.args.call.now Safepoint c.args.word (left i)) refl refl c.exchange-found.ensures)
    (eq-eqb _ _ c.if-found-word.true))
