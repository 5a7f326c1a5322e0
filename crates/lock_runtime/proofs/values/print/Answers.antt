use Rattle.std.proofs.Common.{refl, subst}
use Rattle.plain_monitor.specs.declared.entry.Entry.TheVariants as entry
use Rattle.core_world.specs.declared.heap_call.HeapCall.TheVariants.{Print}
use Rattle.core_world.specs.Threads.ThreadView.{local_of}
use Rattle.core_world.specs.Threads.References.{has_value}
use Rattle.core_world.specs.Trees.Calls.{steps_of, may_act}
use Rattle.core_world.specs.Trees.Operations.{lone_context}
use Rattle.core_world.specs.Trees.Plans.{CallContext}
use Rattle.core_world.specs.Trees.WaitSteps.{publish_steps}
use Rattle.core_calls.proofs.OtherCallsSay.{print_says}
use Rattle.core_calls.proofs.Runs.{tells}
use Rattle.heap_table.specs.Parts.{HasMadeSteps}
use Rattle.heap_table.specs.Resting.{start_now}
use Rattle.heap_table.proofs.Resting.{due_as, rests_as}
use Rattle.lock_runtime.proofs.Begins.{second_of}
use Rattle.lock_runtime.proofs.StandsCalls.{print_leaves}
use Rattle.lock_runtime.proofs.values.print.Goals as goal

pub publish-requires-clause-due : goal.publish-requires-clause-due
unfolding steps_of
publish-requires-clause-due c =
    let a = c.args in
    due_as a.heap.now a.pass.now c.requires.call.rests _ (lone_context (Print a.value))
    (λ (x : CallContext). publish_steps (entry.Print a.value) x (local_of a.pass.now.known)) c.alone-context.ensures c.requires.call.may refl

pub returns : goal.returns
unfolding steps_of
returns c =
    let a = c.args in
    let h = a.heap.now in
    let p = a.pass.now in
    let q = c.publish.new.pass in
    let rests = c.requires.call.rests in
    let run = subst (λ (x : CallContext). HasMadeSteps h (publish_steps (entry.Print a.value) x (local_of p.known)) p q c.publish.result)
    c.alone-context.ensures c.publish.ensures in
    let may = second_of (has_value h.heap.shape p.known a.value) (may_act p.known) c.requires.call.may in
    record {
      rests = rests_as h p rests _ (lone_context (Print a.value)) (λ (x : CallContext). publish_steps (entry.Print a.value) x (local_of p.known))
          c.alone-context.ensures c.requires.call.may refl refl _ _ c.publish.ensures;
      run = run;
      says = tells (print_says (start_now h p) a.value) run.ran;
      stands = print_leaves h p q run.heap rests may a.value run.ran;
    }
