use Rattle.std.proofs.Common.{refl, sym, ◌∙◌}
use Rattle.core_world.specs.Trees.Plans.{CallContext}
use Rattle.core_world.specs.Trees.SafepointSteps.{release_safepoint}
use Rattle.core_world.specs.Trees.Operations.{lone_context}
use Rattle.core_world.specs.declared.heap_call.HeapCall.TheVariants.{Release}
use Rattle.core_world.specs.Trees.Calls.{steps_of}
use Rattle.heap_table.proofs.Resting.{due_as, rests_as}
use Rattle.heap_tests.proofs.Stopping.{release_ends, free_too}
use Rattle.heap_tests.proofs.safepoints.release.Goals as goal

pub release-requires-clause-due : goal.release-requires-clause-due
unfolding steps_of
release-requires-clause-due c =
    let k = c.args.pass.now.known in
    let may = free_too _ _ _ (sym c.reached.ensures ∙ c.if-reached.true) (sym c.is_free.ensures ∙ c.if-is_free.true) in
    due_as _ _ c.requires _ _ (λ (x : CallContext). release_safepoint x k.thread) c.alone.ensures may
    (release_ends (lone_context Release) k.thread)

pub returns-then-is_free : goal.returns-then-is_free
unfolding steps_of
returns-then-is_free c =
    let k = c.args.pass.now.known in
    let may = free_too _ _ _ (sym c.reached.ensures ∙ c.if-reached.true) (sym c.is_free.ensures ∙ c.if-is_free.true) in
    rests_as _ _ c.requires _ _ (λ (x : CallContext). release_safepoint x k.thread) c.alone.ensures may
    (release_ends (lone_context Release) k.thread)
    refl _ _ c.release.ensures
