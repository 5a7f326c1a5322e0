use Rattle.std.proofs.Common.{Bool, refl, sym, subst}
use Rattle.core_world.specs.declared.heap_call.HeapCall.TheVariants.{Check}
use Rattle.core_world.specs.Trees.Calls.{steps_of}
use Rattle.core_world.specs.Trees.Plans.{CallContext}
use Rattle.core_world.specs.Trees.Operations.{check_steps}
use Rattle.core_calls.proofs.OtherCallsSay.{check_says}
use Rattle.core_calls.proofs.Runs.{tells}
use Rattle.core_calls.proofs.safepoint.WhoGoesOn.{check_finds}
use Rattle.heap_table.specs.Parts.{IsDueOn, HasMadeSteps}
use Rattle.heap_table.specs.Resting.{start_now}
use Rattle.heap_table.proofs.Resting.{due_as, rests_after}
use Rattle.lock_runtime.specs.inner.LookParts.{checking, check_going}
use Rattle.lock_runtime.proofs.Looked.{first_check}
use Rattle.lock_runtime.proofs.StandsCalls.{check_leaves}
use Rattle.lock_runtime.proofs.looking.check_stuck.Goals as goal

pub check_asking-requires-clause-due : goal.check_asking-requires-clause-due
unfolding steps_of
check_asking-requires-clause-due c =
    let h = c.args.heap.now in
    let p = c.args.pass.now in
    let context = c.checking-context.result in
    subst (λ (b : Bool). IsDueOn h p context.task (check_going h.heap.shape p.known.thread b context)) (sym c.requesting-requesting.ensures)
    (due_as h p c.requires.rests context (checking p.known.unfinished)
    (λ (x : CallContext). check_going h.heap.shape p.known.thread p.known.requesting x) c.checking-context.ensures c.requires.may refl)

pub returns : goal.returns
unfolding steps_of
returns c =
    let h = c.args.heap.now in
    let p = c.args.pass.now in
    let q = c.check_asking.new.pass in
    let out = c.check_asking.result in
    let s = h.heap.shape in
    let t = p.known.thread in
    let k = start_now h p in
    let run = subst (λ (x : CallContext). HasMadeSteps h (check_going s t p.known.requesting x) p q out) c.checking-context.ensures
    (subst (λ (b : Bool). HasMadeSteps h (check_going s t b c.checking-context.result) p q out) c.requesting-requesting.ensures c.check_asking.ensures) in
    let leaves = check_leaves h p q run.heap c.requires.rests out c.requires.may run.ran in
    record {
      rests = rests_after h p Check c.requires (check_steps s k) refl (first_check s t p.known.requesting (checking p.known.unfinished)) q out run;
      run = run;
      says = tells (check_says s k) run.ran;
      finds = tells (check_finds s k) run.ran;
      stands = leaves.0;
      others = leaves.1;
    }
