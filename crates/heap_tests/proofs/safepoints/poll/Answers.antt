use Rattle.std.proofs.Common.{refl, sym, ◌∙◌}
use Rattle.core_world.specs.Trees.SafepointSteps.{poll_steps}
use Rattle.core_world.specs.Trees.Calls.{steps_of}
use Rattle.heap_table.proofs.Resting.{due_as, rests_as}
use Rattle.heap_tests.proofs.safepoints.poll.Goals as goal

pub poll-requires-clause-due : goal.poll-requires-clause-due
unfolding steps_of
poll-requires-clause-due c =
    let may = sym c.running.ensures ∙ c.if-running.true in
    due_as _ _ c.requires _ _ poll_steps c.aside-call.ensures may refl

pub returns-then-running : goal.returns-then-running
unfolding steps_of
returns-then-running c =
    let may = sym c.running.ensures ∙ c.if-running.true in
    rests_as _ _ c.requires _ _ poll_steps c.aside-call.ensures may refl
    refl _ _ c.poll.ensures
