use Rattle.std.proofs.Common.{refl, sym, ◌∙◌}
use Rattle.core_world.specs.Threads.ThreadView.{local_of}
use Rattle.core_world.specs.Trees.Plans.{CallContext}
use Rattle.core_world.specs.Trees.SafepointSteps.{stop_steps}
use Rattle.core_world.specs.Trees.Calls.{steps_of}
use Rattle.heap_table.proofs.Resting.{due_as, rests_as}
use Rattle.heap_tests.proofs.safepoints.stop.Goals as goal

pub stop-requires-clause-due : goal.stop-requires-clause-due
unfolding steps_of
stop-requires-clause-due c =
    let k = c.args.pass.now.known in
    let may = sym c.running.ensures ∙ c.if-running.true in
    due_as _ _ c.requires _ _ (λ (x : CallContext). stop_steps x (local_of k)) c.aside-call.ensures may refl

pub returns-then-running : goal.returns-then-running
unfolding steps_of
returns-then-running c =
    let k = c.args.pass.now.known in
    let may = sym c.running.ensures ∙ c.if-running.true in
    rests_as _ _ c.requires _ _ (λ (x : CallContext). stop_steps x (local_of k)) c.aside-call.ensures may refl
    refl _ _ c.stop.ensures
