use Rattle.std.proofs.Common.{refl, subst}
use Rattle.core_world.specs.declared.heap_call.HeapCall.TheVariants.{Poll}
use Rattle.core_world.specs.Trees.Calls.{steps_of, side_context}
use Rattle.core_world.specs.Trees.Plans.{CallContext}
use Rattle.core_world.specs.Trees.SafepointSteps.{poll_steps}
use Rattle.core_calls.proofs.OtherCallsSay.{poll_call_says}
use Rattle.core_calls.proofs.Runs.{tells}
use Rattle.heap_table.specs.Parts.{HasMadeSteps}
use Rattle.heap_table.specs.Resting.{start_now}
use Rattle.heap_table.proofs.Resting.{due_as, rests_as}
use Rattle.lock_runtime.proofs.StandsCalls.{poll_leaves}
use Rattle.lock_runtime.proofs.running.poll.Goals as goal

pub poll-requires-clause-due : goal.poll-requires-clause-due
unfolding steps_of
poll-requires-clause-due c =
    let h = c.args.heap.now in
    let p = c.args.pass.now in
    due_as h p c.requires.rests _ (side_context Poll (start_now h p)) poll_steps c.aside-context.ensures
    c.requires.may refl

pub returns : goal.returns
unfolding steps_of
returns c =
    let h = c.args.heap.now in
    let p = c.args.pass.now in
    let q = c.poll.new.pass in
    let run = subst (λ (x : CallContext). HasMadeSteps h (poll_steps x) p q c.poll.result) c.aside-context.ensures c.poll.ensures in
    let leaves = poll_leaves h p q run.heap c.requires.rests c.requires.may c.poll.result run.ran in
    record {
      rests = rests_as h p c.requires.rests _ (side_context Poll (start_now h p)) poll_steps
          c.aside-context.ensures c.requires.may refl refl _ _ c.poll.ensures;
      run = run;
      says = tells (poll_call_says (start_now h p)) run.ran;
      stands = leaves.0;
      others = leaves.1;
    }
