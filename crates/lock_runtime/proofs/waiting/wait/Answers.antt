use Rattle.std.proofs.Common.{refl, sym, ◌∙◌}
use Rattle.core_world.specs.declared.heap_call.Operation.TheVariants as op
use Rattle.core_world.specs.declared.heap_call.HeapCall.TheVariants.{Wait}
use Rattle.core_world.specs.Trees.Calls.{steps_of}
use Rattle.core_world.specs.Trees.Operations.{wait_going}
use Rattle.core_world.specs.Trees.Plans.{call_context}
use Rattle.core_calls.proofs.Runs.{tells}
use Rattle.core_calls.proofs.wait.WaitCallsSay.{wait_says}
use Rattle.heap_table.specs.Parts.{HasMadeSteps}
use Rattle.heap_table.specs.Resting.{start_now}
use Rattle.lock_runtime.proofs.Begins.{first_of, object_there}
use Rattle.lock_runtime.proofs.Goes.{GoesIfHeld, goes_due, goes_made, goes_rests}
use Rattle.lock_runtime.proofs.Refused.{differs, refused, unheld, held}
use Rattle.lock_runtime.proofs.StandsCalls.{wait_leaves}
use Rattle.lock_runtime.proofs.Waits.{first_to_wait}
use Rattle.lock_runtime.proofs.waiting.wait.Goals as goal
use Rattle.lock_runtime.proofs.waiting.wait.Goals.{After-unfinished-context}

pub returns-then-held-eq0-clause-run : goal.returns-then-held-eq0-clause-run
returns-then-held-eq0-clause-run c = refused c.args.object _ c.requires.call.rests.is_of (sym c.held.ensures.held ∙ c.if-held-eq0.true)

pub returns-then-held-eq0-clause-says : goal.returns-then-held-eq0-clause-says
returns-then-held-eq0-clause-says c =
    let a = c.args in
    tells (wait_says a.heap.now.heap.shape (start_now a.heap.now a.pass.now) a.object a.now) (HasMadeSteps.ran (returns-then-held-eq0-clause-run c))

pub returns-then-held-eq0-clause-owner : goal.returns-then-held-eq0-clause-owner
returns-then-held-eq0-clause-owner c =
    unheld c.args.heap.now c.args.pass.now c.requires.call.rests c.args.object (sym c.held.ensures.held ∙ c.if-held-eq0.true)

-- the thread has a hold on the object, so the call goes on
goes : (c : After-unfinished-context) → let a = c.args in let h = a.heap.now in let k = start_now h a.pass.now in
    GoesIfHeld h a.pass.now a.object (λ e. wait_going h.heap.shape e k a.object a.now) (call_context (Wait a.object a.now) op.Wait a.object)
    c.unfinished-context.result
unfolding steps_of
goes c = record {
  call = c.requires.call;
  steps = refl;
  goes = differs c.held.ensures.held c.if-held-eq0.false;
  context = c.unfinished-context.ensures;
}

pub wait_held-requires-clause-due : goal.wait_held-requires-clause-due
wait_held-requires-clause-due c = goes_due (goes (goal.at.wait_held-requires-clause-due c).After-unfinished-context)

pub wait_held-requires-clause-object : goal.wait_held-requires-clause-object
wait_held-requires-clause-object c = object_there c.args.heap.now.heap.shape c.args.pass.now.known c.args.object _ (first_of _ _ c.requires.call.may)

pub returns : goal.returns
returns c =
    let a = c.args in
    let h = a.heap.now in
    let p = a.pass.now in
    let q = c.wait_held.new.pass in
    let k = start_now h p in
    let rests = c.requires.call.rests in
    let g = goes (goal.at.returns c).After-unfinished-context in
    let run = goes_made g c.wait_held.ensures in
    let may = first_of _ _ c.requires.call.may in
    let leaves = wait_leaves h p q run.heap rests a.object a.now may run.ran in
    record {
      rests = goes_rests g tt (first_to_wait h.heap.shape (call_context (Wait a.object a.now) op.Wait a.object) k a.object a.now) c.wait_held.ensures;
      run = run;
      says = tells (wait_says h.heap.shape k a.object a.now) run.ran;
      stands = leaves.0;
      others = leaves.1;
      owner = held h p rests a.object g.goes;
    }
