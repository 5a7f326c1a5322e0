use Rattle.std.proofs.Common.{refl, ap, ◌∙◌}
use Rattle.core_world.specs.declared.word_id.WordId.TheVariants.{Safepoint}
use Rattle.core_world.specs.declared.stage.Stage.TheVariants.{Settled}
use Rattle.core_world.specs.Trees.SafepointSteps.{reached_word}
use Rattle.core_world.specs.Trees.StepTree.{done}
use Rattle.heap_table.proofs.Ruled.{chosen}
use Rattle.heap_table.proofs.StepsLeft.{all_left, can_make, step_made, left_then, all_made}
use Rattle.safepoint.proofs.Swaps.{same_swap}
use Rattle.safepoint.proofs.asking.halt.Goals as goal

pub exchange-requires : goal.exchange-requires
exchange-requires c =
    let expected = c.reached_word-expected.ensures ∙ ap reached_word c.thread.ensures.same in
    let plan = same_swap Settled Safepoint c.unchecked.ensures expected c.halted_word-word.ensures in
    can_make (all_left c.requires.heap c.requires.due) plan refl refl tt

pub returns : goal.returns
returns c =
    let expected = c.reached_word-expected.ensures ∙ ap reached_word c.thread.ensures.same in
    let plan = same_swap Settled Safepoint c.unchecked.ensures expected c.halted_word-word.ensures in
    let left = step_made (all_left c.requires.heap c.requires.due) plan refl refl c.exchange.ensures in
    all_made (left_then _ _ _ left (chosen _ _ _ _ (done tt) left.heap left.due))
