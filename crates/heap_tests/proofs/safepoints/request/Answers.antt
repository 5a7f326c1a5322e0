use Rattle.std.proofs.Common.{refl, sym, ◌∙◌}
use Rattle.core_world.specs.Trees.Plans.{CallContext}
use Rattle.core_world.specs.Trees.SafepointSteps.{request_steps}
use Rattle.core_world.specs.Trees.Calls.{steps_of}
use Rattle.heap_table.proofs.Resting.{due_as, rests_as}
use Rattle.heap_tests.proofs.Stopping.{free_too}
use Rattle.heap_tests.proofs.safepoints.request.Goals as goal

pub request-requires-clause-due : goal.request-requires-clause-due
unfolding steps_of
request-requires-clause-due c =
    let k = c.args.pass.now.known in
    let may = free_too _ _ _ (sym c.running.ensures ∙ c.if-running.true) (sym c.is_free.ensures ∙ c.if-is_free.true) in
    due_as _ _ c.requires _ _ (λ (x : CallContext). request_steps x k.thread) c.alone.ensures may refl

pub returns-then-is_free : goal.returns-then-is_free
unfolding steps_of
returns-then-is_free c =
    let k = c.args.pass.now.known in
    let may = free_too _ _ _ (sym c.running.ensures ∙ c.if-running.true) (sym c.is_free.ensures ∙ c.if-is_free.true) in
    rests_as _ _ c.requires _ _ (λ (x : CallContext). request_steps x k.thread) c.alone.ensures may refl
    refl _ _ c.request.ensures
