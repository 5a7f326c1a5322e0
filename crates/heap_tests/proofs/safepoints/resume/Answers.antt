use Rattle.std.proofs.Common.{◌&&◌, not, refl, sym, ◌∙◌}
use Rattle.core_world.specs.Threads.ThreadView.{local_of}
use Rattle.core_world.specs.Trees.Plans.{CallContext}
use Rattle.core_world.specs.Trees.SafepointSteps.{resume_steps}
use Rattle.core_world.specs.Trees.Calls.{steps_of}
use Rattle.heap_table.proofs.Resting.{due_as, rests_as}
use Rattle.heap_tests.proofs.safepoints.resume.Goals as goal

pub resume-requires-clause-due : goal.resume-requires-clause-due
unfolding steps_of
resume-requires-clause-due c =
    let k = c.args.pass.now.known in
    let stopped = sym c.running.ensures ∙ c.if-running.false in
    let unasking = sym c.requesting.ensures ∙ c.if-requesting.false in
    due_as _ _ c.requires _ _ (λ (x : CallContext). resume_steps x (local_of k)) c.aside-call.ensures
    (λ i. not (stopped i) && not (unasking i)) refl

pub returns : goal.returns
unfolding steps_of
returns c =
    let k = c.args.pass.now.known in
    let stopped = sym c.running.ensures ∙ c.if-running.false in
    let unasking = sym c.requesting.ensures ∙ c.if-requesting.false in
    rests_as _ _ c.requires _ _ (λ (x : CallContext). resume_steps x (local_of k)) c.aside-call.ensures
    (λ i. not (stopped i) && not (unasking i)) refl
    refl _ _ c.resume.ensures
