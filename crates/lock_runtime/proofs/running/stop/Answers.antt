use Rattle.std.proofs.Common.{refl, subst}
use Rattle.core_world.specs.declared.heap_call.HeapCall.TheVariants.{Stop}
use Rattle.core_world.specs.Threads.ThreadView.{local_of}
use Rattle.core_world.specs.Trees.Calls.{steps_of, side_context}
use Rattle.core_world.specs.Trees.Plans.{CallContext}
use Rattle.core_world.specs.Trees.SafepointSteps.{stop_steps}
use Rattle.core_calls.proofs.OtherCallsSay.{stop_call_says}
use Rattle.core_calls.proofs.Runs.{tells}
use Rattle.heap_table.specs.Parts.{HasMadeSteps}
use Rattle.heap_table.specs.Resting.{start_now}
use Rattle.heap_table.proofs.Resting.{due_as, rests_as}
use Rattle.lock_runtime.proofs.StandsCalls.{stop_leaves}
use Rattle.lock_runtime.proofs.running.stop.Goals as goal

pub stop-requires-clause-due : goal.stop-requires-clause-due
unfolding steps_of
stop-requires-clause-due c =
    let h = c.args.heap.now in
    let p = c.args.pass.now in
    due_as h p c.requires.rests _ (side_context Stop (start_now h p)) (λ (x : CallContext). stop_steps x (local_of p.known)) c.aside-context.ensures
    c.requires.may refl

pub returns : goal.returns
unfolding steps_of
returns c =
    let h = c.args.heap.now in
    let p = c.args.pass.now in
    let q = c.stop.new.pass in
    let run = subst (λ (x : CallContext). HasMadeSteps h (stop_steps x (local_of p.known)) p q c.stop.result) c.aside-context.ensures c.stop.ensures in
    record {
      rests = rests_as h p c.requires.rests _ (side_context Stop (start_now h p)) (λ (x : CallContext). stop_steps x (local_of p.known))
          c.aside-context.ensures c.requires.may refl refl _ _ c.stop.ensures;
      run = run;
      says = tells (stop_call_says (start_now h p)) run.ran;
      stands = stop_leaves h p q run.heap c.requires.rests c.requires.may run.ran;
    }
