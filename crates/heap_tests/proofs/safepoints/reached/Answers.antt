use Rattle.std.proofs.Common.{refl, sym, ◌∙◌}
use Rattle.core_world.specs.Trees.SafepointSteps.{reached_steps}
use Rattle.core_world.specs.Trees.Calls.{steps_of}
use Rattle.heap_table.proofs.Resting.{due_as, rests_as}
use Rattle.heap_tests.proofs.Stopping.{free_too}
use Rattle.heap_tests.proofs.safepoints.reached.Goals as goal

pub reached-requires-clause-due : goal.reached-requires-clause-due
unfolding steps_of
reached-requires-clause-due c =
    let may = free_too _ _ _ (sym c.requesting.ensures ∙ c.if-requesting.true) (sym c.is_free.ensures ∙ c.if-is_free.true) in
    due_as _ _ c.requires _ _ reached_steps c.alone.ensures may refl

pub returns-then-is_free : goal.returns-then-is_free
unfolding steps_of
returns-then-is_free c =
    let may = free_too _ _ _ (sym c.requesting.ensures ∙ c.if-requesting.true) (sym c.is_free.ensures ∙ c.if-is_free.true) in
    rests_as _ _ c.requires _ _ reached_steps c.alone.ensures may refl
    refl _ _ c.reached.ensures
