use Rattle.std.proofs.Common.{refl, subst}
use Rattle.core_world.specs.declared.heap_call.HeapCall.TheVariants.{Resume}
use Rattle.core_world.specs.Threads.ThreadView.{local_of}
use Rattle.core_world.specs.Trees.Calls.{steps_of, side_context}
use Rattle.core_world.specs.Trees.Plans.{CallContext}
use Rattle.core_world.specs.Trees.SafepointSteps.{resume_steps}
use Rattle.core_calls.proofs.OtherCallsSay.{resume_call_says}
use Rattle.core_calls.proofs.Runs.{tells}
use Rattle.heap_table.specs.Parts.{HasMadeSteps}
use Rattle.heap_table.specs.Resting.{start_now}
use Rattle.heap_table.proofs.Resting.{due_as, rests_as}
use Rattle.lock_runtime.proofs.StandsCalls.{resume_leaves}
use Rattle.lock_runtime.proofs.running.resume.Goals as goal

pub resume-requires-clause-due : goal.resume-requires-clause-due
unfolding steps_of
resume-requires-clause-due c =
    let h = c.args.heap.now in
    let p = c.args.pass.now in
    due_as h p c.requires.rests _ (side_context Resume (start_now h p)) (λ (x : CallContext). resume_steps x (local_of p.known)) c.aside-context.ensures
    c.requires.may refl

pub returns : goal.returns
unfolding steps_of
returns c =
    let h = c.args.heap.now in
    let p = c.args.pass.now in
    let q = c.resume.new.pass in
    let run = subst (λ (x : CallContext). HasMadeSteps h (resume_steps x (local_of p.known)) p q c.resume.result) c.aside-context.ensures c.resume.ensures in
    let leaves = resume_leaves h p q run.heap c.requires.rests c.resume.result c.requires.may run.ran in
    record {
      rests = rests_as h p c.requires.rests _ (side_context Resume (start_now h p)) (λ (x : CallContext). resume_steps x (local_of p.known))
          c.aside-context.ensures c.requires.may refl refl _ _ c.resume.ensures;
      run = run;
      says = tells (resume_call_says (start_now h p)) run.ran;
      stands = leaves.0;
      others = leaves.1;
    }
